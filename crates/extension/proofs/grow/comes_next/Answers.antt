-- `extension::grow::comes_next` meets its contract: the line ends, or its next node's position is compared.
-- Rests on Next.
use Rattle.std.proofs.Common.{arith}
use Rattle.extension.proofs.Next.{line-end, node-there, node-next}
use Rattle.extension.proofs.grow.comes_next.Goals as goal

pub returns-in_default : goal.returns-in_default
returns-in_default c = line-end c.args.nodes.now c.args.positions.now c.args.pos c.in_default.ensures c.args.next

pub offset_bounds-positions-node : goal.offset_bounds-positions-node
offset_bounds-positions-node c = omega (arith, node-there c.args.nodes.now c.args.positions.now c.args.pos c.in-Some.ensures c.requires.line)

pub bounds-positions-node : goal.bounds-positions-node
bounds-positions-node c = node-there c.args.nodes.now c.args.positions.now c.args.pos c.in-Some.ensures c.requires.line

pub returns : goal.returns
returns c = node-next c.args.nodes.now c.args.positions.now c.args.pos c.in-Some.ensures c.from.ensures c.args.next
