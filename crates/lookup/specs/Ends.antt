-- What rounding and the guess ask.
-- Rests on lib.Ieee.
use Rattle.std.specs.Prelude.{◌≡◌, ℕ, ◌+◌, ◌*◌, ◌^◌, ◌<◌, ◌≤◌, false}
use lib.Ieee.{Float, nan, inf, fin, up, down}

-- a finite value, not negative, and below 2 ^ 52: from there on a value has no half
abbrev pub Roundable : Float → Type 0
Roundable nan = ⊥
Roundable (inf s) = ⊥
Roundable (fin s m e) = (s ≡ false) × (m * up e < 2 ^ 52 * down e)

-- "With the ends at least two apart": two indices, the positions at them, and a position strictly between
pub record Ends (low high left right p : ℕ) : Type 0 where
  pub apart : low + 2 ≤ high
  pub few : high < 65536
  pub above : left < p
  pub under : p < right
  pub word : right < 65536
