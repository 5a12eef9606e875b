-- `walk::walk` meets its contract: the turns answer from what the start leaves.
-- Rests on Starting.
use Rattle.walk.proofs.Starting.{walks}
use Rattle.walk.proofs.walk.Goals as goal

pub start-joined-requires : goal.start-joined-requires
start-joined-requires c = record { laid = c.lay-room.ensures.laid; queued = c.lay-room.ensures.queued }

pub turns-requires : goal.turns-requires
turns-requires c = c.start-joined.ensures.started

pub returns : goal.returns
returns c = walks c.requires.usable c.requires.recorded c.lay-room.ensures c.start-joined.ensures c.turns.ensures
