use Rattle.intervals.specs.Holds.{NodesTurn}
use Rattle.intervals.proofs.collect.add_nodes.Given as goal

abbrev pub invariant-loop-i : goal.invariant-loop-i
invariant-loop-i l = NodesTurn l.at l.room l.initial.area l.initial.records l.count l.area l.records l.stand l.i
