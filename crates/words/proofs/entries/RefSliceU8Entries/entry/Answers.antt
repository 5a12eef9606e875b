-- `entry` of bytes meets its contract: word i stands at byte 2 i.
-- Rests on Turns.
use Rattle.std.proofs.Common.{arith, ◌∙◌, sym}
use Rattle.words.proofs.Turns.{length-words_from, entry-word}
use Rattle.words.proofs.entries.RefSliceU8Entries.entry.Goals as goal

pub prove-unreachable-requires : goal.prove-unreachable-requires
prove-unreachable-requires c = omega (arith, length-words_from c.args.self.now.now)

pub field_at-requires : goal.field_at-requires
field_at-requires c = omega (arith, length-words_from c.args.self.now.now)

pub returns : goal.returns
returns c = c.field_at.ensures ∙ sym (entry-word _ _ (omega (arith, length-words_from c.args.self.now.now)))
