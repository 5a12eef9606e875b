-- `toposort::turns::all_turns` meets its contract: after t turns the area is as the queue after t turns lays it.
-- Rests on Running.
use Rattle.std.proofs.Common.{ap, arith, length, rules, ◌∙◌}
use Rattle.paper.specs.Order.{queue_after}
use Rattle.toposort.proofs.Running.{as_long, standing, over_next, no_fewer, turns_left, order-count, order-laid, none-taken}
use Rattle.toposort.proofs.turns.all_turns.Goals as goal

pub loop-t-init : goal.loop-t-init
loop-t-init c = (search rules, c.requires.count, none-taken c.requires)

pub turn-ordered-requires : goal.turn-ordered-requires
turn-ordered-requires c = record { standing = standing c.requires.index c.loop-t.t c.loop-t.invariant.1 c.loop-t.invariant.2; t_lt_joined = c.loop-t-test.true }

pub overflow_add-t : goal.overflow_add-t
overflow_add-t c = omega (arith, turns_left c.requires.index c.loop-t.t c.loop-t.invariant.1 c.loop-t.invariant.2 c.loop-t-test.true, c.requires.index.linked.read.few-nodes)

pub loop-t-smaller : goal.loop-t-smaller
loop-t-smaller c = omega (arith, turns_left c.requires.index c.loop-t.t c.loop-t.invariant.1 c.loop-t.invariant.2 c.loop-t-test.true)

pub loop-t-preserved : goal.loop-t-preserved
loop-t-preserved c = (
  no_fewer c.requires.index c.loop-t.t c.loop-t.invariant.1 c.loop-t.invariant.2 c.loop-t-test.true c.turn-ordered.ensures.0,
  c.turn-ordered.ensures.0,
  over_next c.requires.index c.loop-t.t c.loop-t.invariant.1 c.loop-t.invariant.2 c.turn-ordered.ensures.1,
)

pub shape_of-area : goal.shape_of-area
shape_of-area c = ap length c.loop-t.invariant.2 ∙ as_long c.requires.index (queue_after c.args.b.now c.loop-t.t)

pub returns : goal.returns
returns c = (
  order-count c.requires.index c.loop-t.t c.loop-t.invariant.1 c.loop-t.invariant.2 c.loop-t-test.false c.loop-t.invariant.0,
  order-laid c.requires.index c.loop-t.t c.loop-t.invariant.1 c.loop-t.invariant.2 c.loop-t-test.false c.loop-t.invariant.0,
)
