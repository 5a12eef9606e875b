-- `lookup::guess::round` meets its contract: the whole part, or one more where the half above it is reached.
-- Rests on Rounding.
use Rattle.std.proofs.Common.{arith, ◌*◌, ◌+◌}
use Rattle.std.proofs.Common.{◌+◌, ◌*◌, ◌^◌, arith, le→leb}
use lib.Ieee.{in_float}
use Rattle.paper.specs.Lookup.{float}
use Rattle.lookup.proofs.Rounding.{cuttable, whole-few, half_reached, half_not_reached}
use Rattle.lookup.proofs.guess.round.Goals as goal

pub truncating_f64_to_u64-whole-requires : goal.truncating_f64_to_u64-whole-requires
truncating_f64_to_u64-whole-requires c = let all = cuttable c.args.x c.requires in record { lower_bound = all.0; upper_bound = all.1 }

pub overflow_mul-half : goal.overflow_mul-half
overflow_mul-half c = omega (arith, whole-few c.args.x c.requires c.truncating_f64_to_u64-whole.ensures)

pub overflow_add-half : goal.overflow_add-half
overflow_add-half c = omega (arith, whole-few c.args.x c.requires c.truncating_f64_to_u64-whole.ensures)

pub int_to_float-half : goal.int_to_float-half
unfolding in_float
int_to_float-half c = le→leb (2 * c.truncating_f64_to_u64-whole.result + 1) (2 ^ 53) (omega (arith, whole-few c.args.x c.requires c.truncating_f64_to_u64-whole.ensures))

pub returns-then-half-x : goal.returns-then-half-x
unfolding float
returns-then-half-x c = half_reached c.args.x c.requires c.truncating_f64_to_u64-whole.ensures c.if-half-x.true

pub returns : goal.returns
unfolding float
returns c = half_not_reached c.args.x c.requires c.truncating_f64_to_u64-whole.ensures c.if-half-x.false
