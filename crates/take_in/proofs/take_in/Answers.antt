-- `take_in::take_in` meets its contract: 8, then 9 of the whole list, then 10 as the entries are taken.
-- Rests on Passing.
use Rattle.std.proofs.Common.{arith, ◌∙◌}
use Rattle.take_in.proofs.Passing.{empty-list, unknown_entry}
use Rattle.take_in.proofs.take_in.Goals as goal

pub returns-then-count-eq0 : goal.returns-then-count-eq0
returns-then-count-eq0 g c = empty-list (omega (arith, c.count.ensures, c.if-count-eq0.true))

pub returns-in-Some : goal.returns-in-Some
returns-in-Some g c = unknown_entry (λ e. c.if-count-eq0.false (c.count.ensures ∙ e)) c.in-Some.ensures
