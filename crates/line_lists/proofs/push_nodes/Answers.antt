-- `line_lists::push_nodes` meets its contract: before turn t the first t nodes of the order are pushed.
-- Rests on Rows.
use Rattle.line_lists.proofs.Rows.{none-pushed, can_push, pushed-on}
use Rattle.line_lists.proofs.push_nodes.Goals as goal

pub loop-t-init : goal.loop-t-init
loop-t-init c = none-pushed c.requires

pub push_node-requires : goal.push_node-requires
push_node-requires c = can_push c.requires c.loop-t-test.true c.loop-t.invariant c.from-v.ensures

pub loop-t-preserved : goal.loop-t-preserved
loop-t-preserved c = pushed-on c.requires c.loop-t-test.true c.loop-t.invariant c.from-v.ensures c.push_node.ensures
