-- `walk::queue::join` meets its contract: a marked node is left out, another is marked and appended.
-- Rests on Joining.
use Rattle.std.proofs.Common.{arith, length-set}
use Rattle.walk.proofs.Joining.{join_again, join-fits, join-once}
use Rattle.walk.proofs.queue.join.Goals as goal

pub returns-then-area-queue-ne0 : goal.returns-then-area-queue-ne0
returns-then-area-queue-ne0 c = join_again c.requires.queued c.requires.v_lt_n c.if-area-queue-ne0.true

pub bounds-area-queue-3 : goal.bounds-area-queue-3
bounds-area-queue-3 c = rw length-set (omega (arith, join-fits c.requires.queued c.requires.v_lt_n c.if-area-queue-ne0.false, c.requires.queued.fits))

pub returns : goal.returns
returns c = join-once c.requires.queued c.requires.v_lt_n c.if-area-queue-ne0.false
