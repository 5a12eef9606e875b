-- The smallest and the largest of a list: no member passes them, and where there is a member they are members.
-- Rests on the definitions.
use Prim.Native.Nat.{ℕ, ◌≤◌, min, max}
use native.Mathlib.Decide.{dec_le}
use native.Mathlib.Omega.{arith}
use mathlib.Core.Path.{◌≡◌, subst}
use mathlib.Core.Logic.{inl, inr}
use mathlib.Core.List.{List, [], ◌∷◌}
use Rattle.lists.specs.Lists.{In, greatest, least}

pub greatest-most : (x : ℕ) (xs : List ℕ) → In x xs → x ≤ greatest xs
greatest-most x [] i = absurd i
greatest-most x (y ∷ ys) (inl e) = omega arith
greatest-most x (y ∷ ys) (inr i) = omega (arith, greatest-most x ys i)

pub least-most : (x : ℕ) (xs : List ℕ) → In x xs → least xs ≤ x
least-most x [] i = absurd i
least-most x (y ∷ []) (inl e) = omega arith
least-most x (y ∷ []) (inr i) = absurd i
least-most x (y ∷ (z ∷ zs)) (inl e) = omega arith
least-most x (y ∷ (z ∷ zs)) (inr i) = omega (arith, least-most x (z ∷ zs) i)

greatest-first : (x : ℕ) (xs : List ℕ) → In (greatest (x ∷ xs)) (x ∷ xs)
greatest-first x [] = inl (omega arith)
greatest-first x (y ∷ ys) = go (greatest (y ∷ ys)) (greatest-first y ys) (dec_le x (greatest (y ∷ ys)))
  where
    go : (m : ℕ) → In m (y ∷ ys) → Dec (x ≤ m) → In (max x m) (x ∷ (y ∷ ys))
    go m i (yes l) = let e : m ≡ max x m = omega arith in inr (subst (λ (k : ℕ). In k (y ∷ ys)) e i)
    go m i (no l) = inl (omega arith)

pub greatest_in : (x : ℕ) (xs : List ℕ) → In x xs → In (greatest xs) xs
greatest_in x [] i = absurd i
greatest_in x (y ∷ ys) i = greatest-first y ys

least_first : (x : ℕ) (xs : List ℕ) → In (least (x ∷ xs)) (x ∷ xs)
least_first x [] = inl (omega arith)
least_first x (y ∷ ys) = go (least (y ∷ ys)) (least_first y ys) (dec_le x (least (y ∷ ys)))
  where
    go : (m : ℕ) → In m (y ∷ ys) → Dec (x ≤ m) → In (min x m) (x ∷ (y ∷ ys))
    go m i (yes l) = inl (omega arith)
    go m i (no l) = let e : m ≡ min x m = omega arith in inr (subst (λ (k : ℕ). In k (y ∷ ys)) e i)

pub least_in : (x : ℕ) (xs : List ℕ) → In x xs → In (least xs) xs
least_in x [] i = absurd i
least_in x (y ∷ ys) i = least_first y ys
