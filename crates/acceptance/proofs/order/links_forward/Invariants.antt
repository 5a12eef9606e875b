use Rattle.std.proofs.Common.{get_or, ltb, true, ℕ, ◌<◌, ◌≡◌}
use Rattle.paper.specs.Map.{link_from, link_to}
use Rattle.acceptance.proofs.order.links_forward.Given as goal

abbrev pub invariant-loop-k : goal.invariant-loop-k
invariant-loop-k l = (j : ℕ) → j < l.k → ltb (get_or l.places (link_from l.b j) 0) (get_or l.places (link_to l.b j) 0) ≡ true
