-- `text::reader::read_list` meets its contract. The loop: the parts of the line are the numbers stored, and those left (SoFar).
-- Rests on Lists.
use Rattle.std.proofs.Common.{arith, refl, rules, sym, ◌∙◌}
use Rattle.std.proofs.lemmas.Bool.Decides.{nat_tests}
use Rattle.text.proofs.Lists.{moved, read_none, read-start, read_more, read_bad, read_all}
use Rattle.text.proofs.reader.read_list.Goals as goal

pub returns-then-is_empty : goal.returns-then-is_empty
returns-then-is_empty c = read_none _ _ (grind (arith, nat_tests))

pub loop-cursor-init : goal.loop-cursor-init
loop-cursor-init c = (refl, read-start _ _ (grind (arith, nat_tests)))

pub returns-in_err-number : goal.returns-in_err-number
returns-in_err-number c = rw c.from_residual.ensures (read_bad c.loop-cursor.invariant.1 (search rules) (sym c.number.ensures ∙ c.in_err-number.was))

pub loop-cursor-smaller : goal.loop-cursor-smaller
loop-cursor-smaller c = omega (arith, (moved _ _ (search rules) (sym c.number.ensures ∙ c.in_ok-number.was)).further)

pub loop-cursor-preserved : goal.loop-cursor-preserved
loop-cursor-preserved c = let read = sym c.number.ensures ∙ c.in_ok-number.was in
    (search rules, read_more c.loop-cursor.invariant.1 (search rules) (omega arith) read)

pub returns : goal.returns
returns c = read_all c.loop-cursor.invariant.1 c.loop-cursor-test.false (omega (arith, c.loop-cursor.invariant.1.few, c.loop-cursor.invariant.1.within))
