-- A rising list by its places, and the answers of the test along a line.
-- Rests on the definition of a rising list.
use Prim.Native.Nat.{ℕ, zero, suc, ◌-◌, ◌≤◌, ◌<◌}
use native.Mathlib.Omega.{arith}
use mathlib.Core.Path.{◌≡◌, ap}
use mathlib.Core.Bool.{true, false}
use mathlib.Core.List.{List, [], ◌∷◌, map}
use lib.ListN.{length, get_or}
use Rattle.lists.specs.Lists.{Rising}
use Rattle.lists.proofs.Tests.{Says, says_yes_lem, says_no_lem}

module _ (g : ℕ → ℕ) where
  -- each of the first i has a smaller one before it
  abbrev pub RisesUpto : List ℕ → ℕ → Type 0
  RisesUpto xs i = (j : ℕ) → suc j < i → g (get_or xs j 0) < g (get_or xs (suc j) 0)

  rising_at : (xs : List ℕ) → Rising (map g xs) → RisesUpto xs (length xs)
  rising_at [] r j h = absurd (omega arith)
  rising_at (x ∷ []) r j h = absurd (omega arith)
  rising_at (x ∷ (y ∷ ys)) r zero h = r.0
  rising_at (x ∷ (y ∷ ys)) r (suc j) h = rising_at (y ∷ ys) r.1 j (omega arith)

  rising-from : (xs : List ℕ) → RisesUpto xs (length xs) → Rising (map g xs)
  rising-from [] h = tt
  rising-from (x ∷ []) h = tt
  rising-from (x ∷ (y ∷ ys)) h = (h 0 (omega arith), rising-from (y ∷ ys) (λ j l. h (suc j) (omega arith)))

  -- ---- a turn of the test: the node at i - 1 and that at i

  module _ (xs : List ℕ) (i : ℕ) (some : 1 ≤ i) {u v : ℕ} (is-u : u ≡ get_or xs (i - 1) 0) (is-v : v ≡ get_or xs i 0) where
    place : suc (i - 1) ≡ i
    place = omega arith

    pub fall : i < length xs → g v ≤ g u → Says false (Rising (map g xs))
    fall h le =
        says_no_lem
        (λ r. omega (
          arith,
          rising_at xs r (i - 1) (omega arith),
          ap g is-u,
          ap g is-v,
          ap (λ (j : ℕ). g (get_or xs j 0)) place,
        ))

  pub rose : (xs : List ℕ) {i : ℕ} → length xs ≤ i → RisesUpto xs i → Says true (Rising (map g xs))
  rose xs h before = says_yes_lem (rising-from xs (λ j l. before j (omega arith)))
