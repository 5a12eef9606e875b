-- `stepmap::read::link_count` meets its contract: the field stands in the trailer.
-- Rests on paper's `L`.
use Rattle.paper.specs.Map.{trailer, L}
use Rattle.stepmap.proofs.read.link_count.Goals as goal

pub returns : goal.returns
unfolding trailer L
returns c = c.number_at.ensures
