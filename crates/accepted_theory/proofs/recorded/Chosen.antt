-- The smallest and the largest of a list, and what sorting leaves: which they are, and that sorting keeps every number as often as it stood.
-- Rests on Among.
use Prim.Native.Nat.{ℕ, ◌+◌, ◌≤◌, ◌<◌}
use native.Mathlib.Decide.{dec_lt}
use native.Mathlib.Omega.{arith}
use mathlib.Core.Path.{◌≡◌, refl}
use mathlib.Core.Logic.{◌⊎◌, inl, inr}
use mathlib.Core.Bool.{Bool, true, false, cond}
use mathlib.Core.List.Memᴰ
use mathlib.Core.List.{
  List,
  [],
  ◌∷◌,
  Memᴰ,
}
use lib.Dec.{eqb, leb}
use Rattle.lists.specs.Lists.{one, times, least, greatest, put, sort_by}

-- ---- the smallest

pub least-below : {y : ℕ} {xs : List ℕ} → Memᴰ y xs → least xs ≤ y
least-below {xs = []} m = absurd (Memᴰ.not-nil m)
least-below {xs = x ∷ []} m = omega (arith, Memᴰ.eq_of_singleton m)
least-below {y} {xs = x ∷ (z ∷ zs)} m = go (Memᴰ.cases_cons m) (least-below {y = y} {xs = z ∷ zs})
  where
    go : (y ≡ x) ⊎ Memᴰ y (z ∷ zs) → (Memᴰ y (z ∷ zs) → least (z ∷ zs) ≤ y) → least (x ∷ (z ∷ zs)) ≤ y
    go (inl e) ih = omega arith
    go (inr n) ih = omega (arith, ih n)

least-there : (x : ℕ) (xs : List ℕ) → Memᴰ (least (x ∷ xs)) (x ∷ xs)
least-there x [] = Memᴰ.head refl
least-there x (z ∷ zs) = go (dec_lt x (least (z ∷ zs))) (least-there z zs)
  where
    go : Dec (x < least (z ∷ zs)) → Memᴰ (least (z ∷ zs)) (z ∷ zs) → Memᴰ (least (x ∷ (z ∷ zs))) (x ∷ (z ∷ zs))
    go (yes h) m = Memᴰ.head {x = x} (omega arith)
    go (no h) m = Memᴰ.tail (Memᴰ.cast (omega arith) m)

pub least_in : {y : ℕ} {xs : List ℕ} → Memᴰ y xs → Memᴰ (least xs) xs
least_in (Memᴰ.head {x = x} {xs = xs} e) = least-there x xs
least_in (Memᴰ.tail {x = x} {xs = xs} m) = least-there x xs

-- a member that is below all members
pub least-is : {y : ℕ} {xs : List ℕ} → Memᴰ y xs → ((z : ℕ) → Memᴰ z xs → y ≤ z) → least xs ≡ y
least-is {y} {xs} m h = omega (arith, least-below m, h (least xs) (least_in m))

-- ---- the largest

pub greatest-above : {y : ℕ} {xs : List ℕ} → Memᴰ y xs → y ≤ greatest xs
greatest-above (Memᴰ.head {x = x} {xs = xs} e) = omega arith
greatest-above (Memᴰ.tail {x = x} {xs = xs} m) = omega (arith, greatest-above m)

greatest-there : (x : ℕ) (xs : List ℕ) → Memᴰ (greatest (x ∷ xs)) (x ∷ xs)
greatest-there x [] = Memᴰ.head {x = x} (omega arith)
greatest-there x (z ∷ zs) = go (dec_lt (greatest (z ∷ zs)) x) (greatest-there z zs)
  where
    go : Dec (greatest (z ∷ zs) < x) → Memᴰ (greatest (z ∷ zs)) (z ∷ zs) → Memᴰ (greatest (x ∷ (z ∷ zs))) (x ∷ (z ∷ zs))
    go (yes h) m = Memᴰ.head {x = x} (omega arith)
    go (no h) m = Memᴰ.tail (Memᴰ.cast (omega arith) m)

pub greatest_in : {y : ℕ} {xs : List ℕ} → Memᴰ y xs → Memᴰ (greatest xs) xs
greatest_in (Memᴰ.head {x = x} {xs = xs} e) = greatest-there x xs
greatest_in (Memᴰ.tail {x = x} {xs = xs} m) = greatest-there x xs

-- a member that is above all members
pub greatest-is : {y : ℕ} {xs : List ℕ} → Memᴰ y xs → ((z : ℕ) → Memᴰ z xs → z ≤ y) → greatest xs ≡ y
greatest-is {y} {xs} m h = omega (arith, greatest-above m, h (greatest xs) (greatest_in m))

-- ---- sorting

module _ (key : ℕ → ℕ) where
  pub times-put : (k x : ℕ) (ys : List ℕ) → times k (put key x ys) ≡ one (eqb k x) + times k ys
  times-put k x [] = refl
  times-put k x (y ∷ ys) = go (leb (key x) (key y)) (times-put k x ys)
    where
      go : (t : Bool) → times k (put key x ys) ≡ one (eqb k x) + times k ys
          → times k (cond t (x ∷ (y ∷ ys)) (y ∷ put key x ys)) ≡ one (eqb k x) + (one (eqb k y) + times k ys)
      go true ih = refl
      go false ih = omega arith

  pub times_sorted : (k : ℕ) (xs : List ℕ) → times k (sort_by key xs) ≡ times k xs
  times_sorted k [] = refl
  times_sorted k (x ∷ xs) = omega (arith, times-put k x (sort_by key xs), times_sorted k xs)
