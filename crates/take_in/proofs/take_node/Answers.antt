-- `take_in::take_node` meets its contract: the node's mark tells whether it was taken before.
-- Rests on Taking.
use Rattle.std.proofs.Common.{arith, length-set, ◌+◌}
use Rattle.take_in.proofs.Taking.{was_taken, now_taken}
use Rattle.take_in.proofs.take_node.Goals as goal

pub returns-then-area-mark-eq1 : goal.returns-then-area-mark-eq1
returns-then-area-mark-eq1 c = was_taken c.requires.taking c.requires.v_lt_n c.from.ensures c.if-area-mark-eq1.true

pub bounds-area-mark-2 : goal.bounds-area-mark-2
bounds-area-mark-2 c = omega (arith, length-set c.args.area.now (c.args.at + c.args.taken) c.args.v)

pub returns : goal.returns
returns c = now_taken c.requires.taking c.requires.v_lt_n c.from.ensures c.if-area-mark-eq1.false
