-- `toposort::ordering::order_map` meets its contract: refusal 1 or 2, else what `order_sized` leaves.
-- Rests on Sizing, stepmap's Answers and refusals' Answers.
use Rattle.std.proofs.Common.{refl}
use Rattle.std.proofs.lemmas.Result.{err_from_is_err_and}
use Rattle.refusals.proofs.Answers.{rule_said, value_said}
use Rattle.stepmap.proofs.Answers.{read_well}
use Rattle.toposort.proofs.Sizing.{unread, sized-left}
use Rattle.toposort.proofs.ordering.order_map.Goals as goal

pub returns-in_err-sizes : goal.returns-in_err-sizes
returns-in_err-sizes c = let p = err_from_is_err_and c.from_residual.result c.from_residual.ensures.1 in
    rw (p.1, p.2) (unread _ _ _ (rule_said _ _ c.in_err-sizes.ensures) refl)

pub order_sized-requires : goal.order_sized-requires
order_sized-requires c = read_well _ _ c.in_ok-sizes.ensures

pub returns : goal.returns
returns c = sized-left _ _ (value_said c.in_ok-sizes.ensures).0 c.order_sized.ensures
