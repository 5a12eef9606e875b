-- A part that was found lies within its line.
-- Rests on Parts.
use Prim.Native.Nat.{ℕ, ◌≤◌}
use native.Mathlib.Omega.{arith}
use mathlib.Core.Path.{◌≡◌, subst}
use mathlib.Core.List.{List}
use lib.ListN.{length}
use Rattle.std.proofs.Common.{Option, Some}
use Rattle.recorded.specs.Parts.{ListAt}
use Rattle.recorded.specs.declared.line_parts.Part.{Part}

pub record Within (from to : ℕ) (line : List ℕ) : Type 0 where
  pub ordered : from ≤ to
  pub inside : to ≤ length line

pub within : {found : Option Part} {part : Part} (line : List ℕ) (at : ℕ) → ListAt found line at → found ≡ Some part → Within part.from part.to line
unfolding ListAt
within {found} {part} line at h e =
    let there : ListAt (Some part) line at = subst (λ (p : Option Part). ListAt p line at) e h in
    record { ordered = omega (arith, there.1); inside = there.2 }
