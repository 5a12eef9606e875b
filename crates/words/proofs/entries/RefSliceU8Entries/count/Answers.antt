-- `count` of bytes meets its contract: as many words as pairs of bytes.
-- Rests on Turns.
use Rattle.std.proofs.Common.{sym}
use Rattle.words.proofs.Turns.{length-words_from}
use Rattle.words.proofs.entries.RefSliceU8Entries.count.Goals as goal

pub returns : goal.returns
returns c = sym (length-words_from _)
