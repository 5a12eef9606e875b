-- The answer's meaning tells its cases apart.
-- Rests on Extended's definitions.
use Prim.Native.Nat.{ℕ}
use mathlib.Core.Path.{◌≡◌, refl, sym, ap, ◌∙◌}
use Rattle.paper.specs.Calls.{Written, wrote, found_apart}
use Rattle.std.specs.Prelude.{Option, Some, None}
use Rattle.extension.specs.Extended.{extended_said}

meant : Written → Option ℕ
meant (wrote count) = Some count
meant found_apart = None

meant_said : (r : Option ℕ) → meant (extended_said r) ≡ r
unfolding meant
meant_said (Some count) = refl
meant_said None = refl

pub extended_said_injective : (r s : Option ℕ) → extended_said r ≡ extended_said s → r ≡ s
extended_said_injective r s e = sym (meant_said r) ∙ ap meant e ∙ meant_said s
