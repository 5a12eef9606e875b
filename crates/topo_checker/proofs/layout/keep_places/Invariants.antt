use Rattle.topo_checker.proofs.Laying.{KeptBelow}
use Rattle.topo_checker.proofs.layout.keep_places.Given as goal

abbrev pub invariant-loop-i : goal.invariant-loop-i
invariant-loop-i l = KeptBelow l.initial.area l.at l.places l.i l.area
