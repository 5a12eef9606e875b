-- Membership, places and `Distinct`, by how often a number stands in a list.
-- Rests on Count and Compare.
use Prim.Native.Nat.{ℕ, zero, suc, ◌≤◌, ◌<◌}
use native.Mathlib.Decide.{ℕ_discrete, dec_lt}
use native.Mathlib.Omega.{arith}
use mathlib.Core.Path.{◌≡◌, refl, sym}
use mathlib.Core.Logic.{◌⊎◌, inl, inr}
use mathlib.Core.List.{List, [], ◌∷◌}
use lib.ListN.{length, get_or, take}
use lib.Dec.{eqb}
use Rattle.lists.specs.Lists.{times, In, Distinct}
use Rattle.lists.specs.Bounds.{Below}
use Rattle.lists.proofs.Count.{one_eq, one_ne, times-take, count-take-suc}

pub times_in : (x : ℕ) (xs : List ℕ) → In x xs → 1 ≤ times x xs
times_in x [] h = absurd h
times_in x (y ∷ ys) (inl e) = omega (arith, one_eq x y e)
times_in x (y ∷ ys) (inr h) = omega (arith, times_in x ys h)

pub times_in_back : (x : ℕ) (xs : List ℕ) → 1 ≤ times x xs → In x xs
times_in_back x [] h = absurd (omega arith)
times_in_back x (y ∷ ys) h = go (ℕ_discrete x y) (times_in_back x ys)
  where
    go : Dec (x ≡ y) → (1 ≤ times x ys → In x ys) → (x ≡ y) ⊎ In x ys
    go (yes e) ih = inl e
    go (no ne) ih = inr (ih (omega (arith, one_ne x y ne)))

pub distinct-times : (xs : List ℕ) → ((x : ℕ) → times x xs ≤ 1) → Distinct xs
distinct-times [] h = tt
distinct-times (x ∷ xs) h =
    (λ i. omega (arith, h x, one_eq x x refl, times_in x xs i), distinct-times xs (λ y. omega (arith, h y)))

-- ---- places

pub times-place : (xs : List ℕ) (i : ℕ) → i < length xs → 1 ≤ times (get_or xs i 0) xs
times-place [] i h = absurd (omega arith)
times-place (x ∷ xs) zero h = omega (arith, one_eq x x refl)
times-place (x ∷ xs) (suc i) h = omega (arith, times-place xs i (omega arith))

pub place-known : (n : ℕ) (xs : List ℕ) (i : ℕ) → Below n xs → i < length xs → get_or xs i 0 < n
place-known n xs i below h = go (dec_lt (get_or xs i 0) n)
  where
    go : Dec (get_or xs i 0 < n) → get_or xs i 0 < n
    go (yes l) = l
    go (no l) = absurd (omega (arith, below (get_or xs i 0) (omega arith), times-place xs i h))

-- what stands once in the whole does not stand before its place
pub place-new : (xs : List ℕ) (i : ℕ) → i < length xs → times (get_or xs i 0) xs ≤ 1 → times (get_or xs i 0) (take i xs) ≡ 0
place-new xs i h once =
    omega
    (arith, times-take x (suc i) xs, count-take-suc (eqb x) xs i h, one_eq x x refl)
  where
    x : ℕ
    x = get_or xs i 0

-- a place below n where x stands
pub record PlaceBelow (n x : ℕ) (xs : List ℕ) : Type 0 where
  pub place : ℕ
  pub before : place < n
  pub inside : place < length xs
  pub holds : get_or xs place 0 ≡ x

pub place-times : (n x : ℕ) (xs : List ℕ) → 1 ≤ times x (take n xs) → PlaceBelow n x xs
place-times zero x xs h = absurd (omega arith)
place-times (suc n) x [] h = absurd (omega arith)
place-times (suc n) x (y ∷ ys) h = go (ℕ_discrete x y) (place-times n x ys)
  where
    go : Dec (x ≡ y) → (1 ≤ times x (take n ys) → PlaceBelow n x ys) → PlaceBelow (suc n) x (y ∷ ys)
    go (yes e) ih = record { place = 0; before = omega arith; inside = omega arith; holds = sym e }
    go (no ne) ih =
        let p = ih (omega (arith, one_ne x y ne)) in
        record { place = suc p.place; before = omega arith; inside = omega arith; holds = p.holds }
