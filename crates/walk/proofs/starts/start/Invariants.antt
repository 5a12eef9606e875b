use Rattle.paper.specs.Walk.{start_nodes}
use Rattle.paper.specs.Records.{records_in}
use Rattle.walk.specs.Queue.{Grown}
use Rattle.walk.proofs.starts.start.Given as goal

abbrev pub invariant-loop-i : goal.invariant-loop-i
invariant-loop-i l = Grown l.initial.area l.room.queue l.at.sizes.nodes 0 (start_nodes l.b l.initial.area (records_in l.records l.i)) l.joined l.area
