use Rattle.std.proofs.Common.{◌-◌, ◌≡◌, ◌≤◌}
use Rattle.lists.proofs.Sections.{part}
use Rattle.paper.specs.Records.{records_in}
use Rattle.walk_theory.specs.Marked.{going, marked_after}
use Rattle.walk.specs.Queue.{Queued}
use Rattle.walk.specs.Fitting.{Queueing}
use Rattle.walk.proofs.turns.turns.Given as goal

abbrev pub invariant-loop-t : goal.invariant-loop-t
invariant-loop-t l = (l.counted ≤ l.t) × Queued l.area l.room.queue l.at.sizes.nodes l.grown × Queueing l.at l.room l.initial.area l.area
    × (marked_after l.b l.initial.area (records_in l.records l.count) l.t ≡ going (part l.area l.room.queue l.grown) l.counted)

abbrev pub decreases-loop-t : goal.decreases-loop-t
decreases-loop-t l = l.at.sizes.nodes - l.t
