-- `port_lines::view_start` meets its contract: the section of the lines, the start of the node's list and the place of the port's first line in it.
-- Rests on PortLines.
use Rattle.std.proofs.Common.{arith}
use Rattle.port_lines.proofs.PortLines.{node-known, start_so, start-inside}
use Rattle.port_lines.proofs.view_start.Goals as goal

pub word_at-requires : goal.word_at-requires
word_at-requires c = omega (arith, c.requires.usable.placed, c.requires.usable.room, node-known c.requires.usable c.requires.port_lt_ports c.port_node-v.ensures)

pub overflow_add-result-2 : goal.overflow_add-result-2
overflow_add-result-2 c = omega (arith, start-inside c.requires.usable c.requires.port_lt_ports c.port_node-v.ensures c.word_at.ensures c.first_line-first.ensures)

pub returns : goal.returns
returns c = start_so c.requires.usable c.requires.port_lt_ports c.port_node-v.ensures c.word_at.ensures c.first_line-first.ensures
