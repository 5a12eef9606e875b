use Rattle.std.proofs.Common.{length, ◌≡◌}
use lib.Seq.{sets}
use Rattle.toposort.specs.Queue.{zero_counters}
use Rattle.toposort.proofs.queue.free_nodes.Given as goal

abbrev pub invariant-loop-v : goal.invariant-loop-v
invariant-loop-v l = (l.joined ≡ length (zero_counters l.initial.area l.counts l.v)) × (l.area ≡ sets l.initial.area l.order (zero_counters l.initial.area l.counts l.v))
