-- What a test says of all numbers below a bound and of any of them, as values of the test: the laws that a search by a loop needs.
-- Rests on Upto (numbers in a row).
use Prim.Native.Nat.{ℕ, zero, suc, ◌+◌, ◌≤◌, ◌<◌}
use native.Mathlib.Decide.{ℕ_discrete}
use native.Mathlib.Numerals.{add-one}
use native.Mathlib.Omega.{arith}
use mathlib.Core.Bool.{Bool, true, false, ◌&&◌, ◌||◌, and-false, or-true, or-false, or_assoc}
use mathlib.Core.Path.{◌≡◌, refl, sym, ap, ◌∙◌}
use Rattle.lists.specs.Lists.{from, upto, all, any}
use Rattle.lists.proofs.Upto.{at_first, further}

module _ (f : ℕ → Bool) where
  -- all pass
  all_from : (n k : ℕ) → ((i : ℕ) → n ≤ i → i < n + k → f i ≡ true) → all f (from n k) ≡ true
  all_from n zero h = refl
  all_from n (suc k) h =
      ap (λ (t : Bool). t && all f (from (suc n) k)) (h n (omega arith) (omega arith))
      ∙ all_from (suc n) k (λ i low high. h i (omega arith) (omega arith))

  pub all_true : (n : ℕ) → ((i : ℕ) → i < n → f i ≡ true) → all f (upto n) ≡ true
  all_true n h = all_from 0 n (λ i low high. h i (omega arith))

  -- where a loop that counts up to n is left, all have passed
  pub all_through : {i n : ℕ} → n ≤ i → ((j : ℕ) → j < i → f j ≡ true) → true ≡ all f (upto n)
  all_through {i} {n} high h = sym (all_true n (λ j l. h j (omega arith)))

  -- one does not pass
  fails_from : (n k i : ℕ) → n ≤ i → i < n + k → f i ≡ false → all f (from n k) ≡ false
  fails_from n zero i low high e = absurd (nothing low high)
    where
      nothing : {n i : ℕ} → n ≤ i → i < n + zero → ⊥
      nothing low high = omega arith
  fails_from n (suc k) i low high e = split (ℕ_discrete i n) (λ later. fails_from (suc n) k i later (omega arith) e)
    where
      split : Dec (i ≡ n) → (suc n ≤ i → all f (from (suc n) k) ≡ false) → all f (from n (suc k)) ≡ false
      split (yes here) rest = ap (λ (t : Bool). t && all f (from (suc n) k)) (ap f (sym here) ∙ e)
      split (no ne) rest = ap (λ (t : Bool). f n && t) (rest (omega arith)) ∙ and-false (f n)

  pub all_false : (n i : ℕ) → i < n → f i ≡ false → all f (upto n) ≡ false
  all_false n i h e = fails_from 0 n i (omega arith) (omega arith) e

  -- none passes
  none_from : (n k : ℕ) → ((i : ℕ) → n ≤ i → i < n + k → f i ≡ false) → any f (from n k) ≡ false
  none_from n zero h = refl
  none_from n (suc k) h =
      ap (λ (t : Bool). t || any f (from (suc n) k)) (h n (omega arith) (omega arith))
      ∙ none_from (suc n) k (λ i low high. h i (omega arith) (omega arith))

  pub any_false : (n : ℕ) → ((i : ℕ) → i < n → f i ≡ false) → any f (upto n) ≡ false
  any_false n h = none_from 0 n (λ i low high. h i (omega arith))

  -- one passes
  passes_from : (n k i : ℕ) → n ≤ i → i < n + k → f i ≡ true → any f (from n k) ≡ true
  passes_from n zero i low high e = absurd (nothing low high)
    where
      nothing : {n i : ℕ} → n ≤ i → i < n + zero → ⊥
      nothing low high = omega arith
  passes_from n (suc k) i low high e = split (ℕ_discrete i n) (λ later. passes_from (suc n) k i later (omega arith) e)
    where
      split : Dec (i ≡ n) → (suc n ≤ i → any f (from (suc n) k) ≡ true) → any f (from n (suc k)) ≡ true
      split (yes here) rest = ap (λ (t : Bool). t || any f (from (suc n) k)) (ap f (sym here) ∙ e)
      split (no ne) rest = ap (λ (t : Bool). f n || t) (rest (omega arith)) ∙ or-true (f n)

  pub any_true : (n i : ℕ) → i < n → f i ≡ true → any f (upto n) ≡ true
  any_true n i h e = passes_from 0 n i (omega arith) (omega arith) e

  -- one number more
  any-from_snoc : (n k : ℕ) → any f (from n (suc k)) ≡ (any f (from n k) || f (n + k))
  any-from_snoc n zero = or-false (f n) ∙ ap f (at_first n)
  any-from_snoc n (suc k) =
      ap (λ (t : Bool). f n || t) (any-from_snoc (suc n) k ∙ ap (λ (i : ℕ). any f (from (suc n) k) || f i) (further n k))
      ∙ sym (or_assoc (f n) (any f (from (suc n) k)) (f (n + suc k)))
    where
      there : (n k : ℕ) → suc n + k ≡ n + suc k
      there n k = omega arith

  pub any-next_false : (n : ℕ) → f n ≡ false → any f (upto (n + 1)) ≡ any f (upto n)
  any-next_false n e =
      ap (λ (m : ℕ). any f (upto m)) (add-one n) ∙ any-from_snoc 0 n
      ∙ ap (λ (t : Bool). any f (upto n) || t) (ap f (none n) ∙ e)
      ∙ or-false (any f (upto n))
    where
      none : (n : ℕ) → 0 + n ≡ n
      none n = omega arith

-- tests that agree at each number
module _ (f g : ℕ → Bool) where
  any-same-from : (n k : ℕ) → ((i : ℕ) → n ≤ i → i < n + k → f i ≡ g i) → any f (from n k) ≡ any g (from n k)
  any-same-from n zero h = refl
  any-same-from n (suc k) h =
      ap (λ (t : Bool). t || any f (from (suc n) k)) (h n (omega arith) (omega arith))
      ∙ ap (λ (t : Bool). g n || t) (any-same-from (suc n) k (λ i low high. h i (omega arith) (omega arith)))

  pub any_same : (n : ℕ) → ((i : ℕ) → i < n → f i ≡ g i) → any f (upto n) ≡ any g (upto n)
  any_same n h = any-same-from 0 n (λ i low high. h i (omega arith))
