-- `line_tables::spread::width` meets its contract.
-- Rests on Widening.
use Rattle.std.proofs.Common.{arith}
use Rattle.line_tables.proofs.Widening.{width_small, width_is}
use Rattle.line_tables.proofs.spread.width.Goals as goal

pub overflow_add-result : goal.overflow_add-result
overflow_add-result c = omega (arith, width_small c.requires c.links_start.ensures c.links_start-2.ensures c.word_at.ensures c.word_at-2.ensures c.new_lines.ensures)

pub returns : goal.returns
returns c = width_is c.requires c.links_start.ensures c.links_start-2.ensures c.word_at.ensures c.word_at-2.ensures c.new_lines.ensures
