-- Rounding by comparison: a value goes up from its whole part exactly if the half above that part is not above the value.
-- Rests on Fractions and lib.Ieee's order of fractions.
use Rattle.std.proofs.Common.{◌≡◌, ℕ, ◌+◌, ◌-◌, ◌*◌, ◌/◌, ◌^◌, ◌<◌, ◌≤◌, min, true, false, T, pos, negsuc, sym, refl, ap, ◌∙◌, subst, true≢false, le_of_lt, div-lt_iff_lt-mul, mul-one, div-mul-le_self, arith, lit<, lit≤, lt→ltb}
use native.Mathlib.Decide.{dec_lt}
use native.Mathlib.Nat.{div-eq_of_lt-le, lt-mul-div-succ}
use lib.Ieee.{Float, nan, inf, fin, binary64, up, down, round, mul, lt, le, of_bits, to_unsigned}
use lib.Ieee.Exact.{HasValue}
use lib.Ieee.Fits.{down_pos}
use lib.Ieee.Order.{le_of_values}
use lib.Ieee.Positive.{num, den, den_pos, positive, above, above_of_le, positive_of_value, mul_at, values_of_le}
use Rattle.paper.specs.Lookup.{rounded, float}
use Rattle.lookup.specs.Ends.{Roundable}
use Rattle.lookup.proofs.Fractions.{float_value, float_positive, binary_value}

-- ---- what is rounded, as a fraction

not_negative : (x : Float) → Roundable x → HasValue x false (num x) (den x)
not_negative nan ok = absurd ok
not_negative (inf s) ok = absurd ok
not_negative (fin s m e) ok = (ok.0, refl)

small : (x : Float) → Roundable x → num x < 2 ^ 52 * den x
small nan ok = absurd ok
small (inf s) ok = absurd ok
small (fin s m e) ok = ok.1

pub rounded-is : (x : Float) → Roundable x → rounded x ≡ (2 * num x + den x) / (2 * den x)
unfolding rounded
rounded-is nan ok = absurd ok
rounded-is (inf s) ok = absurd ok
rounded-is (fin true m e) ok = absurd (true≢false ok.0)
rounded-is (fin false m e) ok = refl

-- ---- what cutting asks and gives

over : (n d : ℕ) → 0 < d → 0 < 1 * d + n * 1
over n d h = omega arith

under : (n d : ℕ) → n < 2 ^ 52 * d → n * 1 < 2 ^ 64 * d
under n d h = omega arith

pub cuttable : (x : Float) → Roundable x → T (lt (fin true 1 (pos 0)) x) × T (lt x (fin false 1 (pos 64)))
unfolding lt
cuttable nan ok = absurd ok
cuttable (inf s) ok = absurd ok
cuttable (fin true m e) ok = absurd (true≢false ok.0)
cuttable (fin false m e) ok =
    (lt→ltb 0 (1 * down e + m * up e * 1) (over (m * up e) (down e) (down_pos e)), lt→ltb (m * up e * 1) (1 * 2 ^ 64 * down e) (under (m * up e) (down e) ok.1))

whole-small : (x : Float) → Roundable x → num x / den x < 2 ^ 52
whole-small x ok = (div-lt_iff_lt-mul (den_pos x)).1 (small x ok)

cut-is : (x : Float) → Roundable x → to_unsigned 64 x ≡ min (num x / den x) (2 ^ 64 - 1)
unfolding to_unsigned
cut-is nan ok = absurd ok
cut-is (inf s) ok = absurd ok
cut-is (fin true m e) ok = absurd (true≢false ok.0)
cut-is (fin false m e) ok = refl

uncapped : (w : ℕ) → w < 2 ^ 52 → min w (2 ^ 64 - 1) ≡ w
uncapped w h = omega arith

-- ---- the half above a whole number, as the code makes it

abbrev pub half_above : ℕ → Float
half_above w = mul binary64 (float (2 * w + 1)) (of_bits binary64 0x3fe0_0000_0000_0000)

half_is : of_bits binary64 0x3fe0_0000_0000_0000 ≡ fin false 1 (negsuc 0)
unfolding of_bits
half_is = refl

half_value : HasValue (of_bits binary64 0x3fe0_0000_0000_0000) false 1 2
half_value = subst (λ (y : Float). HasValue y false 1 2) (sym half_is) (refl, refl)

half_above_value : (w : ℕ) → w < 2 ^ 52 → HasValue (half_above w) false (2 * w + 1) 2
half_above_value w h =
    let n = 2 * w + 1 in
    let half = of_bits binary64 0x3fe0_0000_0000_0000 in
    let few : n < 2 ^ 53 = omega arith in
    let is : half_above w ≡ round binary64 false (n * 1) 2 =
    mul_at binary64 (float n) half n 1 1 2 (float_positive n (omega arith) (le_of_lt few)) (positive_of_value half 1 2 half_value (lit< tt)) (lit< tt) (lit< tt)
    (float_value n (le_of_lt few)) half_value in
    subst (λ (x : Float). HasValue x false n 2) (sym (is ∙ ap (λ (k : ℕ). round binary64 false k 2) (mul-one n))) (binary_value n 1 few (lit≤ tt))

-- ---- the two answers

goes_up : (n d w : ℕ) → n < d * (w + 1) → (2 * w + 1) * d ≤ n * 2 → (2 * n + d) / (2 * d) ≡ w + 1
goes_up n d w h half = div-eq_of_lt-le {k = w + 1} (2 * d) {m = 2 * n + d} (omega arith) (omega arith)

stays : (n d w : ℕ) → w * d ≤ n → n * 2 < (2 * w + 1) * d → (2 * n + d) / (2 * d) ≡ w
stays n d w h half = div-eq_of_lt-le {k = w} (2 * d) {m = 2 * n + d} (omega arith) (omega arith)

module _ (x : Float) (ok : Roundable x) {w : ℕ} (cut : w ≡ to_unsigned 64 x) where
  whole_is : w ≡ num x / den x
  whole_is = cut ∙ cut-is x ok ∙ uncapped (num x / den x) (whole-small x ok)

  pub whole-few : w < 2 ^ 52
  whole-few = subst (λ (k : ℕ). k < 2 ^ 52) (sym whole_is) (whole-small x ok)

  pub half_reached : le (half_above w) x ≡ true → w + 1 ≡ rounded x
  half_reached le-x =
      let passes : T (le (half_above w) x) = subst T (sym le-x) tt in
      let half = half_above_value w whole-few in
      let p = positive_of_value (half_above w) (2 * w + 1) 2 half (omega arith) in
      sym (rounded-is x ok
      ∙ goes_up (num x) (den x) w (subst (λ (k : ℕ). num x < den x * (k + 1)) (sym whole_is) (lt-mul-div-succ (num x) (den_pos x)))
      (values_of_le (half_above w) x (2 * w + 1) 2 (num x) (den x) p (reached x ok (above_of_le (half_above w) x p passes)) half (not_negative x ok) passes))
    where
      reached : (x : Float) → Roundable x → T (above x) → T (positive x)
      reached nan ok a = absurd ok
      reached (inf s) ok a = absurd ok
      reached (fin true m e) ok a = absurd a
      reached (fin false m e) ok a = a

  pub half_not_reached : le (half_above w) x ≡ false → w ≡ rounded x
  half_not_reached fails =
      sym (rounded-is x ok
      ∙ stays (num x) (den x) w (subst (λ (k : ℕ). k * den x ≤ num x) (sym whole_is) (div-mul-le_self (num x) (den x))) (go (dec_lt (num x * 2) ((2 * w + 1) * den x))))
    where
      go : Dec (num x * 2 < (2 * w + 1) * den x) → num x * 2 < (2 * w + 1) * den x
      go (yes l) = l
      go (no n) =
          absurd (subst T fails
          (le_of_values (half_above w) x (2 * w + 1) 2 (num x) (den x) (lit< tt) (den_pos x) (half_above_value w whole-few) (not_negative x ok) (omega arith)))
