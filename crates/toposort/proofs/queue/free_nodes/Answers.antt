-- `toposort::queue::free_nodes` meets its contract: before node v those below it with counter 0 have joined.
-- Rests on Joining.
use Rattle.std.proofs.Common.{arith, refl, ◌≡◌}
use Rattle.toposort.specs.Queue.{zero_counters}
use Rattle.toposort.proofs.Joining.{may_join, many-next, area-next}
use Rattle.toposort.proofs.queue.free_nodes.Goals as goal

pub loop-v-init : goal.loop-v-init
unfolding zero_counters
loop-v-init c = (refl, refl)

pub join_if_free-joined-requires : goal.join_if_free-joined-requires
join_if_free-joined-requires c = may_join c.requires c.loop-v-test.true c.loop-v.invariant.0 c.loop-v.invariant.1

pub loop-v-preserved : goal.loop-v-preserved
loop-v-preserved c = (
  many-next c.requires c.loop-v-test.true c.loop-v.invariant.0 c.loop-v.invariant.1 c.join_if_free-joined.ensures,
  area-next c.requires c.loop-v-test.true c.loop-v.invariant.0 c.loop-v.invariant.1 c.join_if_free-joined.ensures,
)

pub returns : goal.returns
returns c = let all : c.args.n ≡ c.loop-v.v = omega arith in
    rw all (c.loop-v.invariant.0, c.loop-v.invariant.1)
