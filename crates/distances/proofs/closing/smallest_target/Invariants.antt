use Rattle.std.proofs.Common.{◌++◌, ◌≡◌}
use Rattle.neighbours.proofs.Passing.{targets_to}
use Rattle.lists.specs.Found.{found_of, listed}
use Rattle.distances.specs.Smallest.{smallest}
use Rattle.distances.specs.Met.{listed_of}
use Rattle.distances.specs.Reached.{queue_of}
use Rattle.distances.proofs.closing.smallest_target.Given as goal

abbrev pub invariant-loop-i : goal.invariant-loop-i
invariant-loop-i l = found_of l.best ≡ smallest (listed (found_of l.initial.best) ++ listed_of l.area (queue_of l.at) (targets_to l.b l.v l.i))
