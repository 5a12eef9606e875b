-- `back_path::writing::write_path` meets its contract: the path to the step before is written by its call of itself, and the step after it.
-- The measure is the distance. Rests on Written.
use Rattle.std.proofs.Common.{arith}
use Rattle.back_path.proofs.Written.{before-there, before-known, before_way, first-written, next-written}
use Rattle.back_path.proofs.writing.+write_path.Goals as goal

pub returns-then-d-eq0 : goal.returns-then-d-eq0
returns-then-d-eq0 t c = first-written _ _ _ _ _ c.if-d-eq0.true

pub step_before-before-requires : goal.step_before-before-requires
step_before-before-requires t c =
    record { sourced = c.requires.sourced; v_lt_nodes = c.requires.v_lt_nodes; v_value = before-there c.requires.sourced c.if-d-eq0.false _ c.requires.has_way }

pub write_path-requires : goal.write_path-requires
write_path-requires t c = (
  omega (arith, c.decreases, c.if-d-eq0.false),
  (
    c.requires.sourced,
    (
      before-known c.requires.sourced c.if-d-eq0.false _ c.requires.has_way c.step_before-before.ensures,
      (before_way c.requires.sourced c.if-d-eq0.false _ c.requires.has_way c.step_before-before.ensures, omega (arith, c.requires.d_in_bounds)),
    ),
  ),
)

pub returns : goal.returns
returns t c = next-written _ _ _ _ _ c.if-d-eq0.false c.step_before-before.ensures c.write_path.ensures
