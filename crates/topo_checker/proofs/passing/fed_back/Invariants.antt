use Rattle.topo_checker.proofs.Following.{GoingOn}
use Rattle.topo_checker.proofs.passing.fed_back.Given as goal

abbrev pub invariant-loop-i : goal.invariant-loop-i
invariant-loop-i l = GoingOn l.b l.initial.area l.at l.room l.first l.last l.i l.area
