-- Two answers that say the same are the same.
-- Rests on nothing but what the answers mean.
use Prim.Native.Nat.{ℕ}
use mathlib.Core.Path.{◌≡◌, refl}
use Rattle.std.specs.Prelude.{Option, Some, None}
use Rattle.intervals.specs.Answer.{intervals_said}

pub intervals_said_injective : (r s : Option ℕ) → intervals_said r ≡ intervals_said s → r ≡ s
intervals_said_injective (Some c) (Some d) e = cc
intervals_said_injective (Some c) None e = cc
intervals_said_injective None (Some d) e = cc
intervals_said_injective None None e = refl
