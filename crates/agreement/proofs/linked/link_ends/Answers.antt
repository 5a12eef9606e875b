-- `agreement::linked::link_ends` meets its contract: the ends of the links passed stand at the fronts.
-- Rests on Laying.
use Rattle.paper.specs.Map.{link_from, link_to}
use Rattle.agreement.proofs.Laying.{table-next}
use Rattle.agreement.proofs.linked.link_ends.Goals as goal

pub loop-k-preserved : goal.loop-k-preserved
loop-k-preserved c = (
  table-next (link_from c.args.b.now) c.args.froms.now c.loop-k.k c.link_from.ensures c.loop-k.invariant.0,
  table-next (link_to c.args.b.now) c.args.tos.now c.loop-k.k c.link_to.ensures c.loop-k.invariant.1,
)
