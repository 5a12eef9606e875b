use Rattle.intervals.specs.Holds.{NodeTurn}
use Rattle.intervals.proofs.collect.add_node.Given as goal

abbrev pub invariant-loop-e : goal.invariant-loop-e
invariant-loop-e l = NodeTurn l.at l.room l.initial.area l.initial.records l.made l.v l.area l.records l.stand l.e
