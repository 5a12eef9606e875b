use Rattle.std.proofs.Common.{true, ℕ, ◌<◌, ◌≡◌}
use Rattle.acceptance.specs.Places.{at_place}
use Rattle.acceptance.proofs.order.at_places.Given as goal

abbrev pub invariant-loop-i : goal.invariant-loop-i
invariant-loop-i l = (j : ℕ) → j < l.i → at_place l.order l.places j ≡ true
