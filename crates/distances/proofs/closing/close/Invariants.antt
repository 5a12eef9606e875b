use Rattle.std.proofs.Common.{◌-◌}
use Rattle.distances.proofs.Open.{Open}
use Rattle.distances.specs.Reached.{queue_of}
use Rattle.distances.proofs.closing.close.Given as goal

abbrev pub invariant-loop-from : goal.invariant-loop-from
invariant-loop-from l = Open l.b l.initial.area (queue_of l.at) l.count l.from l.to l.d l.area

abbrev pub decreases-loop-from : goal.decreases-loop-from
decreases-loop-from l = l.at.sizes.nodes - l.from
