-- `line_tables::nodes::place_nodes` meets its contract: after t nodes the frontier stands in the area as after t nodes of the order.
-- Rests on Placing and Keeping.
use Rattle.line_tables.proofs.Placing.{no_lines}
use Rattle.line_tables.proofs.Keeping.{over_itself}
use Rattle.line_tables.proofs.nodes.place_nodes.Goals as goal

pub loop-t-init : goal.loop-t-init
loop-t-init c = (no_lines c.args.b.now, over_itself, c.requires)
