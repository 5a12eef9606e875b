-- `distances::queue::mark_list` meets its contract: before node i of the list those before it are marked.
-- Rests on Marking.
use Rattle.distances.proofs.Marking.{still_listed, marking_starts, listed-inside, mark-inside, marking_next, list-marked}
use Rattle.distances.proofs.queue.mark_list.Goals as goal

pub loop-i-init : goal.loop-i-init
loop-i-init c = (still_listed c.requires c.fill.ensures, marking_starts c.requires c.fill.ensures)

pub bounds-area-start : goal.bounds-area-start
bounds-area-start c = listed-inside c.loop-i.invariant.0 c.loop-i-test.true c.loop-i.invariant.1

pub bounds-area-start-in-loop-i : goal.bounds-area-start-in-loop-i
bounds-area-start-in-loop-i c = mark-inside c.loop-i.invariant.0 c.loop-i-test.true c.loop-i.invariant.1 c.from-v.ensures

pub loop-i-preserved : goal.loop-i-preserved
loop-i-preserved c = (c.loop-i.invariant.0, marking_next c.loop-i.invariant.0 c.loop-i-test.true c.loop-i.invariant.1 c.from-v.ensures)

pub returns : goal.returns
returns c = list-marked c.requires c.fill.ensures c.loop-i.auto.i-end c.loop-i-test.false c.loop-i.invariant.1
