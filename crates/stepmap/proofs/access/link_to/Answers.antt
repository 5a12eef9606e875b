-- `stepmap::access::link_to` meets its contract: the field stands in link k's record.
-- Rests on Fields.
use Rattle.std.proofs.Common.{◌∙◌}
use Rattle.stepmap.proofs.Fields.{to_field}
use Rattle.stepmap.proofs.access.link_to.Goals as goal

pub returns : goal.returns
returns c = c.number_at.ensures ∙ to_field _ _ _ c.requires.nodes
