use Rattle.std.proofs.Common.{◌≡◌}
use Rattle.lists.specs.Found.{found_of}
use Rattle.distances.specs.Smallest.{smallest}
use Rattle.distances.specs.Reached.{queue_of, targets_in}
use Rattle.distances.specs.Met.{listed_of}
use Rattle.distances.proofs.closing.smallest_end.Given as goal

abbrev pub invariant-loop-t : goal.invariant-loop-t
invariant-loop-t l = found_of l.best ≡ smallest (listed_of l.area (queue_of l.at) (targets_in l.b l.area l.at.start l.from l.t))
