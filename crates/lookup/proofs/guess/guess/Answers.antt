-- `lookup::guess::guess` meets its contract: the product can be rounded, and the two moves are the definition's.
-- Rests on Guessing.
use Rattle.std.proofs.Common.{arith, ◌-◌}
use Rattle.std.proofs.Common.{◌-◌, ◌^◌, arith, le→leb}
use lib.Ieee.{in_float}
use Rattle.paper.specs.Lookup.{float, quotient, product}
use Rattle.lookup.proofs.Guessing.{product_roundable, rounded-most, moved_up, moved_down, unmoved}
use Rattle.lookup.proofs.guess.guess.Goals as goal

pub int_to_float-alpha : goal.int_to_float-alpha
unfolding in_float
int_to_float-alpha c = le→leb (c.args.pos - c.args.left) (2 ^ 53) (omega arith)

pub int_to_float-alpha-2 : goal.int_to_float-alpha-2
unfolding in_float
int_to_float-alpha-2 c = le→leb (c.args.right - c.args.left) (2 ^ 53) (omega arith)

pub int_to_float-high : goal.int_to_float-high
unfolding in_float
int_to_float-high c = le→leb (c.args.high - c.args.low) (2 ^ 53) (omega arith)

pub round-requires : goal.round-requires
unfolding product quotient float
round-requires c = product_roundable c.args.low c.args.high c.args.left c.args.right c.args.pos c.requires

pub overflow_add-along : goal.overflow_add-along
unfolding product quotient float
overflow_add-along c = omega (arith, c.round.ensures, rounded-most c.args.low c.args.high c.args.left c.args.right c.args.pos c.requires)

pub returns-then-along-low : goal.returns-then-along-low
unfolding product quotient float
returns-then-along-low c = moved_up c.args.low c.args.high c.args.left c.args.right c.args.pos c.round.result c.round.ensures c.if-along-low.true

pub returns-then-along-high : goal.returns-then-along-high
unfolding product quotient float
returns-then-along-high c = moved_down c.args.low c.args.high c.args.left c.args.right c.args.pos c.round.result c.round.ensures c.if-along-low.false c.if-along-high.true

pub returns : goal.returns
unfolding product quotient float
returns c = unmoved c.args.low c.args.high c.args.left c.args.right c.args.pos c.round.result c.round.ensures c.if-along-low.false c.if-along-high.false
