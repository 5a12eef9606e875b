-- Counting by one of two numbers at a time: pairs that pass, and the numbers that equal a given one.
-- Rests on lists.Weight and lists.Once.
use Prim.Native.Nat.{ℕ, ◌+◌, ◌≤◌, ◌<◌}
use native.Mathlib.Decide.{dec_lt}
use native.Mathlib.Omega.{arith}
use mathlib.Core.Path.{◌≡◌, refl, sym, ◌∙◌}
use mathlib.Core.Bool.{Bool, true, false, ◌&&◌, ◌||◌, cond}
use mathlib.Core.List.{List, [], ◌∷◌}
use lib.Dec.{eqb}
use Rattle.lists.specs.Lists.{upto, one, count}
use Rattle.lists.specs.Weight.{total}
use Rattle.lists.proofs.Count.{times-upto, times_past}
use Rattle.lists.proofs.Weight.{count-total}
use Rattle.lists.proofs.Once.{total_members, total_swap, sum-none, sum-once}

-- the pairs that pass, counted by the first or by the second
pub count_swap : (f : ℕ → ℕ → Bool) (xs ys : List ℕ) → total (λ x. count (f x) ys) xs ≡ total (λ y. count (λ x. f x y) xs) ys
count_swap f xs ys =
    total_members (λ x. count (f x) ys) (λ x. total (λ y. one (f x y)) ys) xs (λ x m. count-total (f x) (λ y. one (f x y)) (λ y. refl) ys)
    ∙ total_swap (λ x y. one (f x y)) xs ys
    ∙ sym
    (total_members (λ y. count (λ x. f x y) xs) (λ y. total (λ x. one (f x y)) xs) ys
    (λ y m. count-total (λ x. f x y) (λ x. one (f x y)) (λ x. refl) xs))

-- .. and those that pass one of two tests
pub count_or : (f g : ℕ → Bool) (xs : List ℕ) → count (λ x. f x || g x) xs ≤ count f xs + count g xs
count_or f g [] = omega arith
count_or f g (x ∷ xs) = omega (arith, either (f x) (g x), count_or f g xs)
  where
    either : (s t : Bool) → one (s || t) ≤ one s + one t
    either true t = omega arith
    either false t = omega arith

-- the numbers below n that are x, where a test passes
module _ (x n : ℕ) (t : Bool) where
  picked : count (λ u. eqb x u && t) (upto n) ≡ total (λ u. cond (eqb x u) (one t) 0) (upto n)
  picked = count-total (λ u. eqb x u && t) (λ u. cond (eqb x u) (one t) 0) (λ u. go (eqb x u)) (upto n)
    where
      go : (s : Bool) → one (s && t) ≡ cond s (one t) 0
      go true = refl
      go false = refl

  pub among_one : x < n → count (λ u. eqb x u && t) (upto n) ≡ one t
  among_one h = picked ∙ sum-once (λ u. one t) x (upto n) (times-upto x n h)

  pub among_few : count (λ u. eqb x u && t) (upto n) ≤ one t
  among_few = go (dec_lt x n)
    where
      go : Dec (x < n) → count (λ u. eqb x u && t) (upto n) ≤ one t
      go (yes h) = omega (arith, among_one h)
      go (no h) = omega (arith, picked, sum-none (λ u. one t) x (upto n) (times_past x n (omega arith)))
