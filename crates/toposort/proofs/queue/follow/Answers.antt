-- `toposort::queue::follow` meets its contract: a node whose counter was 1 joins, another waits.
-- Rests on Joining.
use Rattle.std.proofs.Common.{arith, length-set}
use Rattle.toposort.specs.Queue.{lowered, followed}
use Rattle.toposort.proofs.Joining.{joins, waits}
use Rattle.toposort.proofs.queue.follow.Goals as goal

pub returns-then-open-ne1 : goal.returns-then-open-ne1
unfolding lowered followed
returns-then-open-ne1 c = waits (lowered c.args.area.now c.args.counts c.args.w) c.args.order c.args.joined c.args.w c.if-open-ne1.true

pub bounds-area-order : goal.bounds-area-order
bounds-area-order c = rw length-set (omega arith)

pub returns : goal.returns
unfolding lowered followed
returns c = joins (lowered c.args.area.now c.args.counts c.args.w) c.args.order c.args.joined c.args.w c.if-open-ne1.false
