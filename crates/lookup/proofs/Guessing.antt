-- The guess lies strictly between the ends: a quotient of position differences is at most 1, so the product is at most the index difference.
-- Rests on Fractions, Rounding and lib.Ieee's monotone rounding.
use Rattle.std.proofs.Common.{◌≡◌, ℕ, ◌+◌, ◌-◌, ◌*◌, ◌/◌, ◌^◌, ◌<◌, ◌≤◌, Bool, true, false, cond, T, eqb, sym, refl, ap, ◌∙◌, subst, le_refl, mul-le-mul_right, div-lt_iff_lt-mul, arith, lit<, lit≤, eq-eqb, ne_eqb, eqb-true}
use borrow.Author.Tests.{eqb-false}
use lib.Ieee.{Float, nan, inf, fin, binary64, up, down, round, mul, le}
use lib.Ieee.Exact.{HasValue}
use lib.Ieee.Fits.{down_pos}
use lib.Ieee.Order.{round_mono}
use lib.Ieee.Positive.{num, den, den_pos, positive, positive_of_value, own_value, between, cross→le, mul_at, mul_mono, values_of_le}
use Rattle.paper.specs.Lookup.{rounded, float, quotient, product, moved, guess}
use Rattle.lookup.specs.Ends.{Ends, Roundable}
use Rattle.lookup.proofs.Fractions.{float_value, float_positive, binary_value, div_whole}
use Rattle.lookup.proofs.Rounding.{rounded-is}

-- ---- a positive value that is at most k can be rounded, and comes to at most k

abbrev Within : ℕ → Float → Type 0
Within k x = T (positive x) × (num x * 1 ≤ k * den x)

far_below : (n d k : ℕ) → 0 < d → k < 65536 → n * 1 ≤ k * d → n < 2 ^ 52 * d
far_below n d k some few h = omega (arith, scaled)
  where
    scaled : k * d ≤ 65536 * d
    scaled = mul-le-mul_right d (omega arith)

within_roundable : (k : ℕ) (x : Float) → k < 65536 → Within k x → Roundable x
within_roundable k nan few w = absurd w.0
within_roundable k (inf s) few w = absurd w.0
within_roundable k (fin true m e) few w = absurd w.0
within_roundable k (fin false m e) few w = (refl, far_below (m * up e) (down e) k (down_pos e) few w.1)

nearest_most : (n d k : ℕ) → 0 < d → n * 1 ≤ k * d → (2 * n + d) / (2 * d) ≤ k
nearest_most n d k some h = omega (arith, (div-lt_iff_lt-mul {k = 2 * d} {x = 2 * n + d} {y = k + 1} (omega arith)).1 (omega arith))

-- ---- a share a / b of k, a quotient times a whole number, each rounded: it lies between k / 65536 and k

abbrev tiny : Float
tiny = round binary64 false 1 65536

tiny_value : HasValue tiny false 1 65536
tiny_value = binary_value 1 16 (lit< tt) (lit≤ tt)

tiny_positive : T (positive tiny)
tiny_positive = positive_of_value tiny 1 65536 tiny_value (lit< tt)

abbrev whole : Float
whole = round binary64 false 1 1

whole_value : HasValue whole false 1 1
whole_value = binary_value 1 0 (lit< tt) (lit≤ tt)

whole_positive : T (positive whole)
whole_positive = positive_of_value whole 1 1 whole_value (lit< tt)

module _ (a b k : ℕ) (some : 0 < a) (part : a < b) (word : b < 65536) (more : 0 < k) (few : k < 65536) where
  abbrev share : Float
  share = round binary64 false a b

  tiny_below : T (le tiny share)
  tiny_below = round_mono binary64 1 65536 a b (lit< tt) (omega arith) (omega arith)

  whole_above : T (le share whole)
  whole_above = round_mono binary64 a b 1 1 (omega arith) (lit< tt) (omega arith)

  share_positive : T (positive share)
  share_positive = between tiny share whole tiny_positive whole_positive tiny_below whole_above

  count_value : HasValue (float k) false k 1
  count_value = float_value k (omega arith)

  count_positive : T (positive (float k))
  count_positive = float_positive k more (omega arith)

  count-itself : T (le (float k) (float k))
  count-itself = cross→le (float k) (float k) count_positive count_positive (le_refl (num (float k) * den (float k)))

  lowest : HasValue (mul binary64 tiny (float k)) false k 65536
  lowest =
      subst (λ (x : Float). HasValue x false k 65536)
      (sym (mul_at binary64 tiny (float k) 1 65536 k 1 tiny_positive count_positive (lit< tt) (lit< tt) tiny_value count_value ∙ ap (λ (n : ℕ). round binary64 false n 65536) (omega arith)))
      (binary_value k 16 (omega arith) (lit≤ tt))

  highest : HasValue (mul binary64 whole (float k)) false k 1
  highest =
      subst (λ (x : Float). HasValue x false k 1)
      (sym (mul_at binary64 whole (float k) 1 1 k 1 whole_positive count_positive (lit< tt) (lit< tt) whole_value count_value ∙ ap (λ (n : ℕ). round binary64 false n 1) (omega arith)))
      (binary_value k 0 (omega arith) (lit≤ tt))

  share_within : Within k (mul binary64 share (float k))
  share_within =
      let x = mul binary64 share (float k) in
      let low = mul binary64 tiny (float k) in
      let high = mul binary64 whole (float k) in
      let high-positive = positive_of_value high k 1 highest more in
      let above = mul_mono binary64 tiny share (float k) (float k) tiny_positive share_positive count_positive count_positive tiny_below count-itself in
      let under = mul_mono binary64 share whole (float k) (float k) share_positive whole_positive count_positive count_positive whole_above count-itself in
      let x-positive = between low x high (positive_of_value low k 65536 lowest more) high-positive above under in
      (x-positive, values_of_le x high (num x) (den x) k 1 x-positive high-positive (own_value x x-positive) highest under)

-- ---- "With the ends at least two apart it lies strictly between them."

moved-between : (low high g : ℕ) → low + 2 ≤ high → low ≤ g → g ≤ high → (low < moved low high g) × (moved low high g < high)
unfolding moved
moved-between low high g apart least most = go (eqb g low) refl (eqb g high) refl
  where
    go : (s : Bool) → eqb g low ≡ s → (t : Bool) → eqb g high ≡ t
        → (low < cond s (g + 1) (cond t (g - 1) g)) × (cond s (g + 1) (cond t (g - 1) g) < high)
    go true e t f = omega (arith, eqb-true g low e)
    go false e true f = omega (arith, eqb-false g low e, eqb-true g high f)
    go false e false f = omega (arith, eqb-false g low e, eqb-false g high f)

module _ (low high left right p : ℕ) (ends : Ends low high left right p) where
  product_is : product low high left right p ≡ mul binary64 (round binary64 false (p - left) (right - left)) (float (high - low))
  unfolding product quotient
  product_is = ap (λ (x : Float). mul binary64 x (float (high - low))) (div_whole (p - left) (right - left) (omega arith) (omega arith) (omega arith) (omega arith))

  product-within : Within (high - low) (product low high left right p)
  product-within = subst (Within (high - low)) (sym product_is) (share_within (p - left) (right - left) (high - low) (omega arith) (omega arith) (omega arith) (omega arith) (omega arith))

  pub product_roundable : Roundable (product low high left right p)
  product_roundable = within_roundable (high - low) (product low high left right p) (omega arith) product-within

  pub rounded-most : rounded (product low high left right p) ≤ high - low
  rounded-most =
      let x = product low high left right p in
      subst (λ (n : ℕ). n ≤ high - low) (sym (rounded-is x product_roundable)) (nearest_most (num x) (den x) (high - low) (den_pos x) product-within.1)

  pub guess-between : (low < guess low high left right p) × (guess low high left right p < high)
  unfolding guess
  guess-between = moved-between low high (low + rounded (product low high left right p)) ends.apart (omega arith) (omega (arith, rounded-most))

-- ---- the source's two moves, at the low end plus a rounded product r

module _ (low high left right p r : ℕ) (is : r ≡ rounded (product low high left right p)) where
  moved-is : moved low high (low + r) ≡ guess low high left right p
  unfolding guess
  moved-is = ap (λ (n : ℕ). moved low high (low + n)) is

  pub moved_up : low + r ≡ low → low + r + 1 ≡ guess low high left right p
  unfolding moved
  moved_up e = sym (simp (eq-eqb (low + r) low e)) ∙ moved-is

  pub moved_down : (low + r ≡ low → ⊥) → low + r ≡ high → low + r - 1 ≡ guess low high left right p
  unfolding moved
  moved_down ne e = sym (simp (ne_eqb (low + r) low ne, eq-eqb (low + r) high e)) ∙ moved-is

  pub unmoved : (low + r ≡ low → ⊥) → (low + r ≡ high → ⊥) → low + r ≡ guess low high left right p
  unfolding moved
  unmoved low-ne high-ne = sym (simp (ne_eqb (low + r) low low-ne, ne_eqb (low + r) high high-ne)) ∙ moved-is
