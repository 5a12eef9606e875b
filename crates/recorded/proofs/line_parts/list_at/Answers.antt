-- `recorded::line_parts::list_at` meets its contract: each return says where the list ends, or that the line is too short for it.
-- Rests on Parts.
use Rattle.std.proofs.Common.{ap, arith, refl, ℕ, ◌+◌}
use borrow.Author.Tests.{ltb-false}
use Rattle.std.proofs.lemmas.Grind.{common_steps}
use Rattle.std.proofs.lemmas.Option.{gets}
use Rattle.recorded.specs.Parts.{ListAt}
use Rattle.recorded.proofs.line_parts.list_at.Goals as goal

pub returns-in_err-get : goal.returns-in_err-get
unfolding ListAt
returns-in_err-get c = rw c.from_residual.ensures (let h = c.in_err-get.ensures.lookup in omega (arith, ltb-false))

pub returns-then-count-words : goal.returns-then-count-words
unfolding ListAt
returns-then-count-words c = let h = c.in_ok-get.ensures.lookup in grind (arith, common_steps, gets)

pub returns : goal.returns
unfolding ListAt
returns c = (refl, ap (λ (n : ℕ). c.args.at + 1 + n) (let h = c.in_ok-get.ensures.lookup in grind (arith, common_steps, gets)), let h = c.in_ok-get.ensures.lookup in grind (arith, common_steps))
