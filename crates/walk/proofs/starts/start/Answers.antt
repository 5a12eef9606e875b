-- `walk::starts::start` meets its contract: before record i the start nodes of those before it have joined.
-- Rests on Starting.
use Rattle.walk.proofs.Starting.{starts_none, starting, starts-next, begun}
use Rattle.walk.proofs.starts.start.Goals as goal

pub loop-i-init : goal.loop-i-init
loop-i-init c = starts_none c.requires.laid c.requires.queued

pub start_on-joined-requires : goal.start_on-joined-requires
start_on-joined-requires c = starting c.requires.laid c.loop-i.invariant.kept c.loop-i.i c.loop-i-test.true
    c.from-line.ensures c.from-highest.ensures c.loop-i.invariant.queued

pub loop-i-preserved : goal.loop-i-preserved
loop-i-preserved c = starts-next c.requires.laid c.loop-i.invariant.kept c.loop-i.i c.loop-i-test.true c.from-line.ensures
    c.from-highest.ensures c.loop-i.invariant c.start_on-joined.ensures

pub returns : goal.returns
returns c = begun c.requires.laid c.loop-i.auto.i-end c.loop-i-test.false c.loop-i.invariant
