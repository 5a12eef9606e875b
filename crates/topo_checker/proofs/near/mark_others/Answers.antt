-- `topo_checker::near::mark_others` meets its contract: the places that the links passed lead to are marked as far as they are not listed.
-- Rests on Nearby.
use Rattle.std.proofs.Common.{arith}
use Rattle.topo_checker.proofs.Nearby.{laid_then, marks-fit, others-none, others-next}
use Rattle.topo_checker.proofs.near.mark_others.Goals as goal

pub loop-x-init : goal.loop-x-init
loop-x-init c = others-none c.requires.laid c.args.start

pub place_reached-j-requires-clause-laid : goal.place_reached-j-requires-clause-laid
place_reached-j-requires-clause-laid c = laid_then c.requires.laid c.loop-x.invariant.kept

pub mark_other-requires : goal.mark_other-requires
mark_other-requires c = marks-fit (laid_then c.requires.laid c.loop-x.invariant.kept) c.place_reached-j.ensures (omega arith)

pub loop-x-preserved : goal.loop-x-preserved
loop-x-preserved c = others-next c.requires.laid c.args.start c.loop-x.invariant (omega arith) c.place_reached-j.ensures c.mark_other.ensures
