-- `stepmap::ports::port_offset` meets its contract: the offset counts from the node's inputs or from its outputs.
-- Rests on PortNumbers.
use Rattle.std.proofs.Common.{arith}
use Rattle.stepmap.proofs.PortNumbers.{holder, ins-below, first_below, offset_in, offset_out}
use Rattle.stepmap.proofs.Reading.{nodes-below}
use Rattle.stepmap.proofs.ports.port_offset.Goals as goal

pub first_port-first-requires : goal.first_port-first-requires
first_port-first-requires c = let o = holder c.args.b.now _ _ _ c.requires c.port_node-v.ensures in
    let nodes = nodes-below c.args.b.now c.type_inv.b in
    (omega (arith, o.known, c.requires.inside), omega (arith, o.known, c.requires.nodes))

pub num_inputs-requires : goal.num_inputs-requires
num_inputs-requires c = let o = holder c.args.b.now _ _ _ c.requires c.port_node-v.ensures in
    omega (arith, o.known, c.requires.inside)

pub overflow_add-outputs : goal.overflow_add-outputs
overflow_add-outputs c = let o = holder c.args.b.now _ _ c.port_node-v.result c.requires c.port_node-v.ensures in
    let few = nodes-below c.args.b.now c.type_inv.b in
    omega (arith, o.known, c.requires.nodes, first_below c.args.b.now c.type_inv.b c.port_node-v.result, ins-below c.args.b.now c.type_inv.b c.port_node-v.result)

pub overflow_sub-result : goal.overflow_sub-result
overflow_sub-result c = let o = holder c.args.b.now _ _ _ c.requires c.port_node-v.ensures in
    omega (arith, o.low, c.first_port-first.ensures)

pub returns-then-p-outputs : goal.returns-then-p-outputs
returns-then-p-outputs c = let o = holder c.args.b.now _ _ _ c.requires c.port_node-v.ensures in
    offset_in _ _ c.port_node-v.ensures c.first_port-first.ensures c.num_inputs.ensures (omega (arith, o.low, c.first_port-first.ensures)) c.if-p-outputs.true

pub returns : goal.returns
returns c = offset_out _ _ c.port_node-v.ensures c.first_port-first.ensures c.num_inputs.ensures c.if-p-outputs.false
