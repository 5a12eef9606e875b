-- `words::bytes::words_from` meets its contract. The loop: the first i words are those of the bytes, and the rest stand.
-- Rests on Turns.
use Rattle.std.proofs.Common.{rules}
use Rattle.paper.specs.Words.{words_from}
use Rattle.words.proofs.Turns.{words_again}
use Rattle.words.proofs.bytes.words_from.Goals as goal

pub loop-i-preserved : goal.loop-i-preserved
loop-i-preserved c = words_again _ _ _ c.loop-i.invariant c.field_at.ensures

pub returns : goal.returns
unfolding words_from
returns c = search rules
