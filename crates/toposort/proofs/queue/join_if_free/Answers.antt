-- `toposort::queue::join_if_free` meets its contract: a node whose counter is 0 joins, another waits.
-- Rests on Joining.
use Rattle.toposort.proofs.Joining.{joins, waits}
use Rattle.toposort.proofs.queue.join_if_free.Goals as goal

pub returns-then-area-counts-ne0 : goal.returns-then-area-counts-ne0
returns-then-area-counts-ne0 c = waits c.args.area.now c.args.order c.args.joined c.args.v c.if-area-counts-ne0.true

pub returns : goal.returns
returns c = joins c.args.area.now c.args.order c.args.joined c.args.v c.if-area-counts-ne0.false
