use Rattle.std.proofs.Common.{length, ◌-◌, ◌≡◌}
use Rattle.order_theory.specs.Queued.{mid_turn}
use Rattle.toposort.specs.Standing.{laid}
use Rattle.toposort.proofs.turns.turn.Given as goal

abbrev pub invariant-loop-i : goal.invariant-loop-i
invariant-loop-i l = (l.grown ≡ length (mid_turn l.b l.t (l.i - l.start)).joined) × (l.area ≡ laid l.b l.initial.area l.at l.links (mid_turn l.b l.t (l.i - l.start)))
