-- `stepmap::read::node_count` meets its contract: the field stands in the trailer.
-- Rests on paper's `N`.
use Rattle.paper.specs.Map.{trailer, N}
use Rattle.stepmap.proofs.read.node_count.Goals as goal

pub returns : goal.returns
unfolding trailer N
returns c = c.number_at.ensures
