use Rattle.std.proofs.Common.{◌+◌, ◌-◌, ◌<◌, ◌≡◌, ◌≤◌}
use Rattle.paper.specs.Map.{first_port}
use Rattle.stepmap.proofs.ports.port_node.Given as goal

abbrev pub invariant-loop-next : goal.invariant-loop-next
invariant-loop-next l = (l.v < l.n) × ((first_port l.b l.v ≤ l.p) × (l.next ≡ first_port l.b (l.v + 1)))

abbrev pub decreases-loop-next : goal.decreases-loop-next
decreases-loop-next l = l.n - l.v
