-- `stepmap::access::link_in` meets its contract: the field stands in link k's record.
-- Rests on Fields.
use Rattle.std.proofs.Common.{◌∙◌}
use Rattle.stepmap.proofs.Fields.{in_field}
use Rattle.stepmap.proofs.access.link_in.Goals as goal

pub returns : goal.returns
returns c = c.number_at.ensures ∙ in_field _ _ _ c.requires.nodes
