-- `line_tables::lay_lines` meets its contract: every word of the tables stands.
-- Rests on Finishing.
use Rattle.std.proofs.Common.{arith, refl}
use Rattle.line_tables.proofs.Finishing.{counted, count-few, transposing, all_laid}
use Rattle.line_tables.proofs.lay_lines.Goals as goal

pub overflow_add-at : goal.overflow_add-at
overflow_add-at c = omega (arith, count-few c.place_nodes-count.ensures.2 c.place_nodes-count.ensures.0)

pub nodes_of_lines-requires : goal.nodes_of_lines-requires
nodes_of_lines-requires c = transposing c.place_nodes-count.ensures.2 c.place_nodes-count.ensures.0

pub overflow_cast-area : goal.overflow_cast-area
overflow_cast-area c = omega (arith, count-few c.place_nodes-count.ensures.2 c.place_nodes-count.ensures.0)

pub returns : goal.returns
returns c = (counted c.place_nodes-count.ensures.2 c.place_nodes-count.ensures.0, all_laid c.spread.ensures c.place_nodes-count.ensures.1 c.place_nodes-count.ensures.2 c.place_nodes-count.ensures.0 c.nodes_of_lines.ensures c.fill.ensures refl)
