-- `distances::queue::join` meets its contract: a marked node is left out, another is marked with its distance and appended.
-- Rests on Joining.
use Rattle.std.proofs.Common.{arith, length-set}
use Rattle.distances.proofs.Joining.{join_again, join-fits, join-once}
use Rattle.distances.proofs.queue.join.Goals as goal

pub returns-then-area-start-ne0 : goal.returns-then-area-start-ne0
returns-then-area-start-ne0 c = join_again c.requires.met c.requires.v_lt_nodes.0 c.args.d c.if-area-start-ne0.true

pub bounds-area-start-3 : goal.bounds-area-start-3
bounds-area-start-3 c = rw length-set (omega (arith, c.requires.met.fits))

pub bounds-area-start-4 : goal.bounds-area-start-4
bounds-area-start-4 c = rw (length-set, length-set) (omega (arith, join-fits c.requires.met c.requires.v_lt_nodes.0 c.if-area-start-ne0.false, c.requires.met.fits))

pub returns : goal.returns
returns c = join-once c.requires.met c.requires.v_lt_nodes.0 c.if-area-start-ne0.false c.args.d
