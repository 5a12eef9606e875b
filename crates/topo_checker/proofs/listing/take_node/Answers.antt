-- `topo_checker::listing::take_node` meets its contract: a known node's place is marked.
-- Rests on Taking.
use Rattle.std.proofs.Common.{arith}
use Rattle.topo_checker.proofs.Taking.{node_unknown, mark-inside, node-marked}
use Rattle.topo_checker.proofs.listing.take_node.Goals as goal

pub returns-then-v-at : goal.returns-then-v-at
returns-then-v-at c = node_unknown _ _ _ _ (omega (arith, c.if-v-at.true))

pub overflow_add-area : goal.overflow_add-area
overflow_add-area c = omega (arith, mark-inside c.requires c.if-v-at.false c.word_at-i.ensures)

pub offset_bounds-area-room : goal.offset_bounds-area-room
offset_bounds-area-room c = omega (arith, mark-inside c.requires c.if-v-at.false c.word_at-i.ensures)

pub bounds-area-room : goal.bounds-area-room
bounds-area-room c = mark-inside c.requires c.if-v-at.false c.word_at-i.ensures

pub returns : goal.returns
returns c = node-marked c.requires c.if-v-at.false c.word_at-i.ensures
