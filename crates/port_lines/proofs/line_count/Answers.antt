-- `port_lines::line_count` meets its contract: the links at the port's own offset.
-- Rests on PortLines.
use Rattle.std.proofs.Common.{arith}
use Rattle.port_lines.proofs.PortLines.{offset_small, lines-counted}
use Rattle.port_lines.proofs.line_count.Goals as goal

pub overflow_add-offset : goal.overflow_add-offset
overflow_add-offset c = omega (arith, offset_small c.requires _ c.port_offset-offset.ensures, c.requires.known, c.requires.read.few-ports)

pub returns : goal.returns
returns c = lines-counted c.requires _ c.port_offset-offset.ensures c.is_output-out.ensures c.port_node-v.ensures c.links_among.ensures
