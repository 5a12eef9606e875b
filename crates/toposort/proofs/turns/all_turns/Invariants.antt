use Rattle.std.proofs.Common.{length, ◌-◌, ◌≡◌, ◌≤◌}
use Rattle.paper.specs.Order.{queue_after}
use Rattle.toposort.specs.Standing.{laid}
use Rattle.toposort.proofs.turns.all_turns.Given as goal

abbrev pub invariant-loop-t : goal.invariant-loop-t
invariant-loop-t l = (l.t ≤ l.ordered) × (l.ordered ≡ length (queue_after l.b l.t).joined) × (l.area ≡ laid l.b l.initial.area l.at l.links (queue_after l.b l.t))

abbrev pub decreases-loop-t : goal.decreases-loop-t
decreases-loop-t l = l.at.sizes.nodes - l.t
