-- 01, "The questions": the line lookup inside, and its guess over IEEE 754's binary64.
-- Rests on lib.Ieee.
use Rattle.std.specs.Prelude.{ℕ, ◌+◌, ◌-◌, ◌*◌, ◌/◌, cond, List, length, get_or, eqb, pos}
use lib.Ieee.{Float, nan, inf, fin, binary64, up, down, of_int, div, mul}
use Rattle.lists.specs.Found.{Found, first}

-- "a line lookup answers an index or absent": where a position stands among a line's positions
unfoldable pub lookup : List ℕ → ℕ → Found
lookup positions p = first (λ i. eqb (get_or positions i 0) p) (length positions)

-- "rounded half away from zero": the whole number nearest to m * 2 ^ e, the larger of two that are as near. The guess rounds no other value
unfoldable pub rounded : Float → ℕ
rounded nan = 0
rounded (inf s) = 0
rounded (fin s m e) = cond s 0 ((2 * (m * up e) + down e) / (2 * down e))

unfoldable pub float : ℕ → Float
float n = of_int binary64 (pos n)

-- "quotient of position differences"
unfoldable pub quotient : ℕ → ℕ → ℕ → Float
quotient low_position high_position p = div binary64 (float (p - low_position)) (float (high_position - low_position))

-- "times index difference"
unfoldable pub product : ℕ → ℕ → ℕ → ℕ → ℕ → Float
product low high low_position high_position p = mul binary64 (quotient low_position high_position p) (float (high - low))

-- "a guess equal to an end moves by one"
unfoldable pub moved : ℕ → ℕ → ℕ → ℕ
moved low high g = cond (eqb g low) (g + 1) (cond (eqb g high) (g - 1) g)

unfoldable pub guess : ℕ → ℕ → ℕ → ℕ → ℕ → ℕ
guess low high low_position high_position p = moved low high (low + rounded (product low high low_position high_position p))
