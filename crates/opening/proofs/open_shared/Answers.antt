-- `opening::open_shared` meets its contract: refusal 1 or 2, else what `open_placed_shared` says.
-- Rests on Opening, stepmap's Answers and refusals' Answers.
use Rattle.std.proofs.lemmas.Result.{err_from_is_err_and}
use Rattle.refusals.proofs.Answers.{rule_said, value_said}
use Rattle.stepmap.proofs.Answers.{read_well}
use Rattle.tables.proofs.Placed.{few}
use Rattle.opening.proofs.Opening.{laid, unread_said, placed-said}
use Rattle.opening.proofs.open_shared.Goals as goal

pub returns-in_err-sizes : goal.returns-in_err-sizes
returns-in_err-sizes c = let p = err_from_is_err_and c.from_residual.result c.from_residual.ensures.1 in
    rw (p.1, p.2) (unread_said _ _ _ (rule_said _ _ c.in_err-sizes.ensures))

pub lay_out-at-requires : goal.lay_out-at-requires
lay_out-at-requires c = few (read_well _ _ c.in_ok-sizes.ensures)

pub open_placed_shared-requires : goal.open_placed_shared-requires
open_placed_shared-requires c = laid (read_well _ _ c.in_ok-sizes.ensures) c.lay_out-at.ensures

pub returns : goal.returns
returns c =
    placed-said _ _ (laid (read_well _ _ c.in_ok-sizes.ensures) c.lay_out-at.ensures) (value_said c.in_ok-sizes.ensures).0 c.open_placed_shared.ensures
