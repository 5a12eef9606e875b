-- `stepmap::ports::first_port` meets its contract: the loop's sum is the first port of the node that it has come to.
-- Rests on PortNumbers.
use Rattle.std.proofs.Common.{arith, refl}
use Rattle.paper.specs.Map.{first_port}
use Rattle.stepmap.proofs.PortNumbers.{first-port-next, ins-below, outs-below, first_below}
use Rattle.stepmap.proofs.ports.first_port.Goals as goal

pub loop-u-init : goal.loop-u-init
unfolding first_port
loop-u-init c = refl

pub overflow_add-p : goal.overflow_add-p
overflow_add-p c = omega (arith, ins-below c.args.b.now c.type_inv.b c.loop-u.u, outs-below c.args.b.now c.type_inv.b c.loop-u.u)

pub overflow_add-p-in-loop-u : goal.overflow_add-p-in-loop-u
overflow_add-p-in-loop-u c = omega (arith, ins-below c.args.b.now c.type_inv.b c.loop-u.u, outs-below c.args.b.now c.type_inv.b c.loop-u.u, first_below c.args.b.now c.type_inv.b c.loop-u.u)

pub loop-u-preserved : goal.loop-u-preserved
loop-u-preserved c = omega (arith, first-port-next c.args.b.now c.loop-u.u)
