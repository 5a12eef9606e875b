-- A part that was found lies within the area.
-- Rests on Inside.
use Prim.Native.Nat.{ℕ, ◌≤◌}
use mathlib.Core.Path.{◌≡◌, subst}
use Rattle.std.proofs.Common.{Option, Some}
use Rattle.recorded.specs.declared.line_parts.Part.{Part}
use Rattle.replaying.specs.Inside.{Inside}

pub within-size : {found : Option Part} {part : Part} {size : ℕ} → Inside found size → found ≡ Some part → (part.from ≤ part.to) × (part.to ≤ size)
unfolding Inside
within-size {size = size} h e = subst (λ (p : Option Part). Inside p size) e h
