-- `toposort::queue::lowest_left` meets its contract: the counters passed are 0, and the first that is not decides.
-- Rests on Leftover.
use Rattle.std.proofs.Common.{arith, below_more}
use Rattle.toposort.proofs.Leftover.{left_at, none_left}
use Rattle.toposort.proofs.queue.lowest_left.Goals as goal

pub returns-then-area-counts-ne0 : goal.returns-then-area-counts-ne0
returns-then-area-counts-ne0 c = left_at c.args.area.now c.args.counts _ c.loop-v-test.true c.loop-v.invariant c.if-area-counts-ne0.true

pub loop-v-preserved : goal.loop-v-preserved
loop-v-preserved c = below_more _ _ c.loop-v.invariant c.if-area-counts-ne0.false

pub returns : goal.returns
returns c = none_left c.args.area.now c.args.counts c.args.n (omega arith) c.loop-v.invariant
