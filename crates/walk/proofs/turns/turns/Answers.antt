-- `walk::turns::turns` meets its contract: after t turns the area holds the walk with marks after t turns.
-- Rests on Running.
use Rattle.std.proofs.Common.{arith}
use Rattle.tables.proofs.Within.{within_none}
use Rattle.walk.proofs.Running.{state-starts, ended, turning, ended_no, went_on}
use Rattle.walk.proofs.turns.turns.Goals as goal

pub largest_lowest-top-requires : goal.largest_lowest-top-requires
largest_lowest-top-requires c = c.requires.laid.recorded.fits

pub loop-t-init : goal.loop-t-init
loop-t-init c = (omega arith, c.requires.queued, within_none, state-starts c.requires)

pub turn-requires : goal.turn-requires
turn-requires c = turning c.requires c.loop-t.t c.loop-t.invariant.2 c.loop-t.invariant.1 c.loop-t.invariant.3 c.loop-t-test.true c.loop-t.invariant.0

pub returns-in_default : goal.returns-in_default
returns-in_default c = ended_no c.requires c.loop-t.t c.loop-t.invariant.2 c.loop-t.invariant.1 c.loop-t.invariant.3 c.loop-t-test.true
    c.largest_lowest-top.ensures c.loop-t.invariant.0 c.in_default.ensures

pub overflow_add-t : goal.overflow_add-t
overflow_add-t c = omega (arith, c.loop-t-test.true, c.loop-t.invariant.1)

pub loop-t-smaller : goal.loop-t-smaller
loop-t-smaller c = omega (arith, c.loop-t-test.true, c.loop-t.invariant.1)

pub loop-t-preserved : goal.loop-t-preserved
loop-t-preserved c = went_on c.requires c.loop-t.t c.loop-t.invariant.2 c.loop-t.invariant.1 c.loop-t.invariant.3 c.loop-t-test.true
    c.largest_lowest-top.ensures c.loop-t.invariant.0 c.in-Some.ensures

pub shape_of-area : goal.shape_of-area
shape_of-area c = c.loop-t.invariant.2.long

pub returns : goal.returns
returns c = ended c.requires c.loop-t.t c.loop-t.invariant.2 c.loop-t.invariant.1 c.loop-t.invariant.3 c.loop-t-test.false
