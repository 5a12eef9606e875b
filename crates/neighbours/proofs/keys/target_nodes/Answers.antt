-- `neighbours::keys::target_nodes` meets its contract: after k links the targets of the first k stand.
-- Rests on Writing.
use Rattle.std.proofs.Common.{arith}
use Rattle.paper.specs.Map.{link_to}
use Rattle.order_theory.proofs.Refusals.{sound}
use Rattle.neighbours.proofs.Writing.{target-known, one_more}
use Rattle.neighbours.proofs.keys.target_nodes.Goals as goal

pub overflow_cast-area : goal.overflow_cast-area
overflow_cast-area c = omega (arith, target-known c.requires.read (sound _ c.requires.links) c.loop-k-test.true, c.requires.read.few-nodes)

pub loop-k-preserved : goal.loop-k-preserved
loop-k-preserved c = one_more c.requires (link_to c.args.b.now) c.loop-k-test.true c.loop-k.invariant c.link_to.ensures
