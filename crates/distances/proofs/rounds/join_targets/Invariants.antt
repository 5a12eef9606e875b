use Rattle.neighbours.proofs.Passing.{targets_to}
use Rattle.distances.specs.Met.{Joins}
use Rattle.distances.specs.Reached.{queue_of}
use Rattle.distances.proofs.rounds.join_targets.Given as goal

abbrev pub invariant-loop-i : goal.invariant-loop-i
invariant-loop-i l = Joins l.initial.area (queue_of l.at) l.joined (targets_to l.b l.v l.i) l.d l.grown l.area
