use Rattle.std.proofs.Common.{false, ℕ, ◌<◌, ◌≡◌}
use Rattle.records.specs.Slots.{straddles_here}
use Rattle.records.proofs.find_straddling.Given as goal

abbrev pub invariant-loop-v : goal.invariant-loop-v
invariant-loop-v l = (u : ℕ) → u < l.v → straddles_here l.area l.words l.at l.slots u ≡ false
