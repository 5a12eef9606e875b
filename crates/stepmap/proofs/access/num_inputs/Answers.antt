-- `stepmap::access::num_inputs` meets its contract: the field stands in node v's record.
-- Rests on paper's `ins`.
use Rattle.paper.specs.Map.{ins}
use Rattle.stepmap.proofs.access.num_inputs.Goals as goal

pub returns : goal.returns
unfolding ins
returns c = c.number_at.ensures
