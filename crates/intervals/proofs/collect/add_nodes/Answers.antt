-- `intervals::collect::add_nodes` meets its contract: before turn i the positions of the first i nodes are added.
-- Rests on Nodes.
use Rattle.intervals.proofs.Nodes.{nodes-first, can_add-node, nodes-on, nodes_done}
use Rattle.intervals.proofs.collect.add_nodes.Goals as goal

pub loop-i-init : goal.loop-i-init
loop-i-init c = nodes-first c.requires

pub add_node-stand-requires : goal.add_node-stand-requires
add_node-stand-requires c = can_add-node c.requires c.loop-i.invariant c.loop-i-test.true c.word_at-v.ensures

pub loop-i-preserved : goal.loop-i-preserved
loop-i-preserved c = nodes-on c.requires c.loop-i.invariant c.loop-i-test.true c.word_at-v.ensures c.add_node-stand.ensures

pub returns : goal.returns
returns c = nodes_done c.requires c.loop-i.invariant c.loop-i-test.false
