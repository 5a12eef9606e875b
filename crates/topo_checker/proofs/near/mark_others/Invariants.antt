use Rattle.topo_checker.specs.Near.{OthersMarked}
use Rattle.topo_checker.proofs.near.mark_others.Given as goal

abbrev pub invariant-loop-x : goal.invariant-loop-x
invariant-loop-x l = OthersMarked l.b l.initial.area l.at l.room l.start l.x l.first l.last l.area
