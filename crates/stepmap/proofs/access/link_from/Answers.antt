-- `stepmap::access::link_from` meets its contract: the field stands in link k's record.
-- Rests on Fields.
use Rattle.std.proofs.Common.{◌∙◌}
use Rattle.stepmap.proofs.Fields.{from_field}
use Rattle.stepmap.proofs.access.link_from.Goals as goal

pub returns : goal.returns
returns c = c.number_at.ensures ∙ from_field _ _ _ c.requires.nodes
