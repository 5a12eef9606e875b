-- `intervals::collect::add_node` meets its contract: before entry e the position is added to the lines before it.
-- Rests on Node.
use Rattle.std.proofs.Common.{arith}
use Rattle.intervals.proofs.Node.{node-first, line-inside, can_add, node-on, node_done}
use Rattle.intervals.proofs.collect.add_node.Goals as goal

pub loop-e-init : goal.loop-e-init
loop-e-init c = node-first c.requires c.word_at-from.ensures

pub word_at-line-requires : goal.word_at-line-requires
word_at-line-requires c = line-inside c.requires c.loop-e.invariant (omega (arith, c.loop-e-test.true, c.word_at-to.ensures))

pub small_map_add-stand-requires : goal.small_map_add-stand-requires
small_map_add-stand-requires c = can_add c.requires c.loop-e.invariant (omega (arith, c.loop-e-test.true, c.word_at-to.ensures)) c.word_at-line.ensures

pub loop-e-preserved : goal.loop-e-preserved
loop-e-preserved c = node-on c.requires c.loop-e.invariant (omega (arith, c.loop-e-test.true, c.word_at-to.ensures)) c.word_at-line.ensures
    c.small_map_add-stand.ensures

pub returns : goal.returns
returns c = node_done c.requires c.loop-e.invariant (omega (arith, c.loop-e-test.false, c.word_at-to.ensures))
