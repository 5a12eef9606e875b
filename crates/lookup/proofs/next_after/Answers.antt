-- `lookup::next_after` meets its contract: the position is found, and the next node follows its index.
-- Rests on Following.
use Rattle.std.proofs.Common.{arith, sym}
use Rattle.lookup.proofs.Following.{not_absent, on_line, next-node, line-ends}
use Rattle.lookup.proofs.next_after.Goals as goal

pub returns-in_err-next : goal.returns-in_err-next
returns-in_err-next c = absurd (not_absent c.args.nodes.now c.args.positions.now c.args.pos c.requires.positions_value (sym c.in_err-next.ensures))

pub overflow_add-next : goal.overflow_add-next
overflow_add-next c = omega (arith, on_line c.requires.line c.args.pos c.in_ok-next.field-0 (sym c.in_ok-next.ensures))

pub returns-then-next-nodes : goal.returns-then-next-nodes
returns-then-next-nodes c = next-node c.requires.line c.args.pos c.in_ok-next.field-0 (sym c.in_ok-next.ensures) c.if-next-nodes.true c.from.ensures

pub returns : goal.returns
returns c = line-ends c.requires.line c.args.pos c.in_ok-next.field-0 (sym c.in_ok-next.ensures) c.if-next-nodes.false
