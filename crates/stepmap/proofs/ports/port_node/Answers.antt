-- `stepmap::ports::port_node` meets its contract: the port is not before node v, and the loop ends where it is before the next.
-- Rests on PortNumbers.
use Rattle.std.proofs.Common.{arith, ◌+◌, ◌≤◌}
use Rattle.paper.specs.Map.{first_port}
use Rattle.stepmap.proofs.PortNumbers.{first-port_zero, first-port-next, first_below, ins-below, outs-below, known-before, owner-node}
use Rattle.stepmap.proofs.Reading.{nodes-below}
use Rattle.stepmap.proofs.ports.port_node.Goals as goal

pub num_inputs-requires : goal.num_inputs-requires
num_inputs-requires c = omega (arith, known-before c.args.b.now _ _ 0 c.requires (omega (arith, first-port_zero c.args.b.now)))

pub num_outputs-requires : goal.num_outputs-requires
num_outputs-requires c = omega (arith, known-before c.args.b.now _ _ 0 c.requires (omega (arith, first-port_zero c.args.b.now)))

pub overflow_add-next : goal.overflow_add-next
overflow_add-next c = omega (arith, ins-below c.args.b.now c.type_inv.b 0, outs-below c.args.b.now c.type_inv.b 0)

pub loop-next-init : goal.loop-next-init
loop-next-init c = let low : first_port c.args.b.now 0 ≤ c.args.p = omega (arith, first-port_zero c.args.b.now) in
    (known-before c.args.b.now _ _ 0 c.requires low, (low, omega (arith, first-port_zero c.args.b.now, first-port-next c.args.b.now 0)))

pub overflow_add-v : goal.overflow_add-v
overflow_add-v c = omega arith

pub num_inputs-requires-in-loop-next : goal.num_inputs-requires-in-loop-next
num_inputs-requires-in-loop-next c = let low : first_port c.args.b.now (c.loop-next.v + 1) ≤ c.args.p = omega arith in
    omega (arith, known-before c.args.b.now _ _ _ c.requires low)

pub num_outputs-requires-in-loop-next : goal.num_outputs-requires-in-loop-next
num_outputs-requires-in-loop-next c = let low : first_port c.args.b.now (c.loop-next.v + 1) ≤ c.args.p = omega arith in
    omega (arith, known-before c.args.b.now _ _ _ c.requires low)

pub overflow_add-next-in-loop-next : goal.overflow_add-next-in-loop-next
overflow_add-next-in-loop-next c = omega (arith, ins-below c.args.b.now c.type_inv.b (c.loop-next.v + 1), outs-below c.args.b.now c.type_inv.b (c.loop-next.v + 1))

pub overflow_add-next-in-loop-next-2 : goal.overflow_add-next-in-loop-next-2
overflow_add-next-in-loop-next-2 c = let few = nodes-below c.args.b.now c.type_inv.b in
    omega (arith, ins-below c.args.b.now c.type_inv.b (c.loop-next.v + 1), outs-below c.args.b.now c.type_inv.b (c.loop-next.v + 1), first_below c.args.b.now c.type_inv.b (c.loop-next.v + 1), c.requires.nodes)

pub loop-next-smaller : goal.loop-next-smaller
loop-next-smaller c = omega arith

pub loop-next-preserved : goal.loop-next-preserved
loop-next-preserved c = let low : first_port c.args.b.now (c.loop-next.v + 1) ≤ c.args.p = omega arith in
    (known-before c.args.b.now _ _ _ c.requires low, (low, omega (arith, first-port-next c.args.b.now (c.loop-next.v + 1))))

pub returns : goal.returns
returns c = owner-node c.args.b.now _ _ (record { known = omega (arith, c.requires.nodes); low = c.loop-next.invariant.1.0; high = omega arith })
