-- `stepmap::ports::first_ports` meets its contract: after v nodes the first v places hold their first ports.
-- Rests on PortNumbers and lists.Upto.
use Rattle.std.proofs.Common.{arith, refl, ◌+◌, ◌≡◌, ◌≤◌}
use Rattle.paper.specs.Map.{first_port}
use Rattle.stepmap.proofs.PortNumbers.{first-port-next, first-rises, filled_next}
use Rattle.stepmap.proofs.ports.first_ports.Goals as goal

pub loop-v-init : goal.loop-v-init
unfolding first_port
loop-v-init c = (refl, refl)

pub overflow_cast-firsts : goal.overflow_cast-firsts
overflow_cast-firsts c = omega (arith, first-rises c.args.b.now c.loop-v.v c.args.n (omega arith), c.requires.numbered.few)

pub overflow_add-p : goal.overflow_add-p
overflow_add-p c = let next : c.loop-v.v + 1 ≤ c.args.n = omega arith in
    omega (arith, first-rises c.args.b.now (c.loop-v.v + 1) _ next, first-port-next c.args.b.now c.loop-v.v, c.requires.numbered.few)

pub overflow_add-p-in-loop-v : goal.overflow_add-p-in-loop-v
overflow_add-p-in-loop-v c = let next : c.loop-v.v + 1 ≤ c.args.n = omega arith in
    omega (arith, first-rises c.args.b.now (c.loop-v.v + 1) _ next, first-port-next c.args.b.now c.loop-v.v, c.requires.numbered.few)

pub loop-v-preserved : goal.loop-v-preserved
loop-v-preserved c = (
  omega (arith, first-port-next c.args.b.now c.loop-v.v),
  filled_next c.args.b.now _ _ c.loop-v.invariant.0 c.loop-v.invariant.1,
)

pub returns : goal.returns
returns c = let done : c.args.n ≡ c.loop-v.v = omega arith in
    rw done (filled_next c.args.b.now _ _ c.loop-v.invariant.0 c.loop-v.invariant.1)
