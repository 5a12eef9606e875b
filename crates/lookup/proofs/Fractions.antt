-- Fractions that binary64 holds exactly, and the quotient of two whole numbers.
-- Rests on lib.Ieee: where rounding changes nothing, and that it depends on the fraction alone.
use Rattle.std.proofs.Common.{◌≡◌, ℕ, ◌+◌, ◌-◌, ◌*◌, ◌^◌, ◌<◌, ◌≤◌, Bool, true, false, cond, T, eqb, sym, ap, ◌∙◌, lt_of_lt_of_le, mul_assoc, mul-pos, mul-one, arith, ltb→lt, pow_pos, pow_mono, pow-add, shl_lt, ne_eqb}
use lib.Ieee.{Float, nan, inf, fin, binary64, round, div, of_int, up, down}
use lib.Ieee.Back.{round_whole}
use lib.Ieee.Exact.{HasValue, round_exact}
use lib.Ieee.Positive.{num, den, den_pos, positive, positive_of_value, own_value, value_pos, value→cross}
use lib.Ieee.Scale.{round_same}
use Rattle.paper.specs.Lookup.{float}

pub float_value : (n : ℕ) → n ≤ 2 ^ 53 → HasValue (float n) false n 1
unfolding float of_int
float_value n h = round_whole binary64 false n h

pub float_positive : (n : ℕ) → 0 < n → n ≤ 2 ^ 53 → T (positive (float n))
float_positive n some h = positive_of_value (float n) n 1 (float_value n h) some

-- n / 2 ^ k, with few enough digits and not too small
pub binary_value : (n k : ℕ) → n < 2 ^ 53 → k ≤ 1074 → HasValue (round binary64 false n (2 ^ k)) false n (2 ^ k)
binary_value n k small h =
    round_exact binary64 false n (2 ^ k) n (1074 - k) (pow_pos k) small (lt_of_lt_of_le (shl_lt 53 (1074 - k) small) (pow_mono room))
    (ap (λ (j : ℕ). n * 2 ^ j) (sym whole) ∙ ap (λ (u : ℕ). n * u) (pow-add 2 (1074 - k) k) ∙ sym (mul_assoc n (2 ^ (1074 - k)) (2 ^ k)))
  where
    room : 53 + (1074 - k) ≤ 2098
    room = omega arith

    whole : 1074 - k + k ≡ 1074
    whole = omega arith

-- ---- the quotient

above_zero : (f : Float) (m : ℕ) (g : Float) → 0 < m → cond (eqb m 0) f g ≡ g
above_zero f m g h = ap (λ (t : Bool). cond t f g) (ne_eqb m 0 (λ e. omega arith))

div_is : (x y : Float) → T (positive x) → T (positive y) → div binary64 x y ≡ round binary64 false (num x * den y) (num y * den x)
unfolding div
div_is nan y p q = absurd p
div_is (inf s) y p q = absurd p
div_is (fin true m e) y p q = absurd p
div_is (fin false m e) nan p q = absurd q
div_is (fin false m e) (inf t) p q = absurd q
div_is (fin false m e) (fin true n d) p q = absurd q
div_is (fin false m e) (fin false n d) p q =
    above_zero (cond (eqb m 0) nan (inf false)) n (round binary64 false (m * up e * down d) (n * up d * down e)) (ltb→lt 0 n q)

across : (a b nx dx ny dy : ℕ) → nx * 1 ≡ a * dx → ny * 1 ≡ b * dy → nx * dy * b ≡ a * (ny * dx)
across a b nx dx ny dy p q = rw (sym (mul-one nx) ∙ p, sym (mul-one ny) ∙ q) (omega arith)

-- of two whole numbers: the fraction, rounded once
pub div_whole : (a b : ℕ) → 0 < a → a ≤ 2 ^ 53 → 0 < b → b ≤ 2 ^ 53 → div binary64 (float a) (float b) ≡ round binary64 false a b
div_whole a b some small more few =
    let x = float a in
    let y = float b in
    let p = float_positive a some small in
    let q = float_positive b more few in
    div_is x y p q
    ∙ round_same binary64 false (num x * den y) (num y * den x) a b (mul-pos (value_pos y (num y) (den y) q (den_pos y) (own_value y q)) (den_pos x)) more
    (across a b (num x) (den x) (num y) (den y) (value→cross x a 1 (float_value a small)) (value→cross y b 1 (float_value b few)))
