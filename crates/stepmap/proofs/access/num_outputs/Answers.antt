-- `stepmap::access::num_outputs` meets its contract: the field stands in node v's record.
-- Rests on paper's `outs`.
use Rattle.paper.specs.Map.{outs}
use Rattle.stepmap.proofs.access.num_outputs.Goals as goal

pub returns : goal.returns
unfolding outs
returns c = c.number_at.ensures
