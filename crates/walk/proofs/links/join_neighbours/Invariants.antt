use Rattle.neighbours.proofs.Passing.{targets_to}
use Rattle.walk.specs.Queue.{Grown}
use Rattle.walk.proofs.links.join_neighbours.Given as goal

abbrev pub invariant-loop-i : goal.invariant-loop-i
invariant-loop-i l = Grown l.initial.area l.queue l.sizes.nodes l.joined (targets_to l.b l.v l.i) l.grown l.area
