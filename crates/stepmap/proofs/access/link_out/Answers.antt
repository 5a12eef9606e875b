-- `stepmap::access::link_out` meets its contract: the field stands in link k's record.
-- Rests on Fields.
use Rattle.std.proofs.Common.{◌∙◌}
use Rattle.stepmap.proofs.Fields.{out_field}
use Rattle.stepmap.proofs.access.link_out.Goals as goal

pub returns : goal.returns
returns c = c.number_at.ensures ∙ out_field _ _ _ c.requires.nodes
