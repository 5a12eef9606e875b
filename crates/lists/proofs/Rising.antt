-- A rising list with one more element at its end, and that nothing stands twice in it.
-- Rests on Count.
use Prim.Native.Nat.{ℕ, ◌+◌, ◌≤◌, ◌<◌}
use native.Mathlib.Decide.{ℕ_discrete, dec_lt}
use native.Mathlib.Omega.{arith}
use mathlib.Core.Path.{◌≡◌, ap}
use mathlib.Core.List.{List, [], ◌∷◌, ◌++◌, map}
use lib.Dec.{eqb}
use Rattle.lists.specs.Lists.{one, times, Rising}
use Rattle.lists.proofs.Count.{one_eq, one_ne}

module _ {A : Type 0} (g : A → ℕ) where
  pub rising_more : (xs : List A) (x y : A) → Rising (map g (xs ++ (x ∷ []))) → g x < g y → Rising (map g ((xs ++ (x ∷ [])) ++ (y ∷ [])))
  rising_more [] x y r h = (h, tt)
  rising_more (a ∷ []) x y r h = (r.0, (h, tt))
  rising_more (a ∷ (c ∷ xs)) x y r h = (r.0, rising_more (c ∷ xs) x y r.1 h)

module _ (g : ℕ → ℕ) where
  -- what stands behind the first is above it
  rising-above : (x : ℕ) (xs : List ℕ) → Rising (map g (x ∷ xs)) → (v : ℕ) → 1 ≤ times v xs → g x < g v
  rising-above x [] r v h = absurd (omega arith)
  rising-above x (y ∷ ys) r v h = go (ℕ_discrete v y) (rising-above y ys r.1 v)
    where
      go : Dec (v ≡ y) → (1 ≤ times v ys → g y < g v) → g x < g v
      go (yes e) later = omega (arith, ap g e, r.0)
      go (no ne) later = omega (arith, r.0, later (omega (arith, one_ne v y ne)))

  rising-rest : (x : ℕ) (xs : List ℕ) → Rising (map g (x ∷ xs)) → Rising (map g xs)
  rising-rest x [] r = tt
  rising-rest x (y ∷ ys) r = r.1

  pub rising-once : (xs : List ℕ) → Rising (map g xs) → (v : ℕ) → times v xs ≤ 1
  rising-once [] r v = omega arith
  rising-once (x ∷ xs) r v = go (rising-once xs (rising-rest x xs r) v) (ℕ_discrete v x) (dec_lt (times v xs) 1)
    where
      go : times v xs ≤ 1 → Dec (v ≡ x) → Dec (times v xs < 1) → one (eqb v x) + times v xs ≤ 1
      go few (yes e) (yes none) = omega (arith, one_eq v x e)
      go few (yes e) (no some) = absurd (omega (arith, rising-above x xs r v (omega arith), ap g e))
      go few (no ne) d = omega (arith, one_ne v x ne)
