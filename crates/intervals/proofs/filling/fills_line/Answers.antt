-- `intervals::filling::fills_line` meets its contract: the lowest is found on the line, and the last node's position is read.
-- Rests on Testing and lookup's Following.
use Rattle.std.proofs.Common.{arith, sym}
use Rattle.lookup.proofs.Following.{not_absent, on_line}
use Rattle.intervals.proofs.Testing.{ends-before, ends_there}
use Rattle.intervals.proofs.filling.fills_line.Goals as goal

pub returns-in_default : goal.returns-in_default
returns-in_default c = absurd (not_absent c.args.nodes.now c.args.positions.now c.args.low c.requires.positions_value (sym c.in_default.ensures))

pub overflow_add-last : goal.overflow_add-last
overflow_add-last c = omega (arith, on_line c.requires.line c.args.low c.in-Some.first (sym c.in-Some.ensures), c.requires.le_count.1)

pub returns-else-last-nodes : goal.returns-else-last-nodes
returns-else-last-nodes c = ends-before c.args.nodes.now c.args.positions.now c.args.low c.args.high c.args.count (sym c.in-Some.ensures) c.if-last-nodes.false

pub returns-then-last-nodes : goal.returns-then-last-nodes
returns-then-last-nodes c = ends_there c.args.nodes.now c.args.positions.now c.args.low c.args.high c.args.count (sym c.in-Some.ensures) c.if-last-nodes.true c.position_at.ensures.value
