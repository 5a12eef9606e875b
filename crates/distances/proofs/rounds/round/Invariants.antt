use Rattle.distances.specs.Reached.{queue_of, targets_in}
use Rattle.distances.specs.Met.{Joins}
use Rattle.distances.proofs.rounds.round.Given as goal

abbrev pub invariant-loop-t : goal.invariant-loop-t
invariant-loop-t l = Joins l.initial.area (queue_of l.at) l.to (targets_in l.b l.initial.area l.at.start l.from l.t) l.d l.grown l.area
