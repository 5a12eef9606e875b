-- `port_lines::first_line` meets its contract: the links at offsets below the port's own.
-- Rests on PortLines.
use Rattle.port_lines.proofs.PortLines.{first_counted}
use Rattle.port_lines.proofs.first_line.Goals as goal

pub returns : goal.returns
returns c = first_counted c.requires _ c.port_offset-offset.ensures c.is_output-out.ensures c.port_node-v.ensures c.links_among.ensures
