-- `stepmap::ports::is_output` meets its contract: the outputs of the port's node start after its inputs.
-- Rests on PortNumbers.
use Rattle.std.proofs.Common.{arith}
use Rattle.stepmap.proofs.PortNumbers.{holder, ins-below, first_below, output_test}
use Rattle.stepmap.proofs.Reading.{nodes-below}
use Rattle.stepmap.proofs.ports.is_output.Goals as goal

pub first_port-requires : goal.first_port-requires
first_port-requires c = let o = holder c.args.b.now _ _ _ c.requires c.port_node-v.ensures in
    let nodes = nodes-below c.args.b.now c.type_inv.b in
    (omega (arith, o.known, c.requires.inside), omega (arith, o.known, c.requires.nodes))

pub num_inputs-requires : goal.num_inputs-requires
num_inputs-requires c = let o = holder c.args.b.now _ _ _ c.requires c.port_node-v.ensures in
    omega (arith, o.known, c.requires.inside)

pub overflow_add-result : goal.overflow_add-result
overflow_add-result c = let o = holder c.args.b.now _ _ c.port_node-v.result c.requires c.port_node-v.ensures in
    let few = nodes-below c.args.b.now c.type_inv.b in
    omega (arith, o.known, c.requires.nodes, first_below c.args.b.now c.type_inv.b c.port_node-v.result, ins-below c.args.b.now c.type_inv.b c.port_node-v.result)

pub returns : goal.returns
returns c = output_test _ _ c.port_node-v.ensures c.first_port.ensures c.num_inputs.ensures
