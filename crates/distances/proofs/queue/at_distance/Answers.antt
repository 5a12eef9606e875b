-- `distances::queue::at_distance` meets its contract: a node without mark was not met, of another the distance tells.
use Rattle.std.proofs.Common.{arith}
use Rattle.std.proofs.lemmas.Grind.{common_steps}
use Rattle.distances.specs.Met.{tells}
use Rattle.distances.proofs.queue.at_distance.Goals as goal

pub returns-then-area-start-ne0 : goal.returns-then-area-start-ne0
unfolding tells
returns-then-area-start-ne0 c = grind (arith, common_steps)

pub returns-else-area-start-ne0 : goal.returns-else-area-start-ne0
unfolding tells
returns-else-area-start-ne0 c = grind (arith, common_steps)
