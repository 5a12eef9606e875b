-- The list functions of all crates, said once: what the kit's `mathlib.Core.List`, `lib.ListN` and `lib.Seq` do not have.
-- Rests on those and on the kit's tests `ltb`, `leb`, `eqb`; the laws stand in proofs/.
use Rattle.std.specs.Prelude.{ℕ, zero, suc, ◌+◌, ◌-◌, ◌<◌, min, max, ◌≡◌, ◌⊎◌, Bool, true, false, not, ◌&&◌, ◌||◌, cond, List, [], ◌∷◌, ◌++◌, length, replicate, eqb, leb, ltb}

-- ---- numbers in a row

-- k numbers from n on
abbrev pub from : ℕ → ℕ → List ℕ
from n zero = []
from n (suc k) = n ∷ from (suc n) k

-- the numbers below n
abbrev pub upto : ℕ → List ℕ
upto n = from 0 n

-- ---- tests over a list

-- 1 for a test that passes
abbrev pub one : Bool → ℕ
one true = 1
one false = 0

module _ {A : Type 0} where
  abbrev pub all : (A → Bool) → List A → Bool
  all f [] = true
  all f (x ∷ xs) = f x && all f xs

  abbrev pub any : (A → Bool) → List A → Bool
  any f [] = false
  any f (x ∷ xs) = f x || any f xs

  -- how many pass
  abbrev pub count : (A → Bool) → List A → ℕ
  count f [] = 0
  count f (x ∷ xs) = one (f x) + count f xs

  -- those that pass, in their order
  abbrev pub keep : (A → Bool) → List A → List A
  keep f [] = []
  keep f (x ∷ xs) = cond (f x) (x ∷ keep f xs) (keep f xs)

  -- the neighbours in a list, two by two
  abbrev pub pairs : List A → List (A × A)
  pairs [] = []
  pairs (x ∷ []) = []
  pairs (x ∷ (y ∷ ys)) = (x, y) ∷ pairs (y ∷ ys)

-- ---- lists of numbers

abbrev pub member : ℕ → List ℕ → Bool
member n = any (eqb n)

abbrev pub In : ℕ → List ℕ → Type 0
In n [] = ⊥
In n (x ∷ xs) = (n ≡ x) ⊎ In n xs

-- no number stands twice
abbrev pub Distinct : List ℕ → Type 0
Distinct [] = Unit {0}
Distinct (x ∷ xs) = (In x xs → ⊥) × Distinct xs

-- how often n stands in a list
abbrev pub times : ℕ → List ℕ → ℕ
times n = count (eqb n)

abbrev pub same : List ℕ → List ℕ → Bool
same [] [] = true
same [] (y ∷ ys) = false
same (x ∷ xs) [] = false
same (x ∷ xs) (y ∷ ys) = eqb x y && same xs ys

abbrev pub sum : List ℕ → ℕ
sum [] = 0
sum (x ∷ xs) = x + sum xs

-- each smaller than the next
abbrev pub rising : List ℕ → Bool
rising [] = true
rising (x ∷ []) = true
rising (x ∷ (y ∷ ys)) = ltb x y && rising (y ∷ ys)

abbrev pub Rising : List ℕ → Type 0
Rising [] = Unit {0}
Rising (x ∷ []) = Unit {0}
Rising (x ∷ (y ∷ ys)) = (x < y) × Rising (y ∷ ys)

-- the largest, 0 of none
abbrev pub greatest : List ℕ → ℕ
greatest [] = 0
greatest (x ∷ xs) = max x (greatest xs)

-- the smallest, 0 of none
abbrev pub least : List ℕ → ℕ
least [] = 0
least (x ∷ []) = x
least (x ∷ (y ∷ ys)) = min x (least (y ∷ ys))

-- each number once, where it first stands
abbrev pub once : List ℕ → List ℕ
once [] = []
once (x ∷ xs) = x ∷ keep (λ y. not (eqb x y)) (once xs)

-- by rising key; what has the same key keeps its order
module _ (key : ℕ → ℕ) where
  abbrev pub put : ℕ → List ℕ → List ℕ
  put x [] = x ∷ []
  put x (y ∷ ys) = cond (leb (key x) (key y)) (x ∷ (y ∷ ys)) (y ∷ put x ys)

  abbrev pub sort_by : List ℕ → List ℕ
  sort_by [] = []
  sort_by (x ∷ xs) = put x (sort_by xs)

-- n words that begin with the list; the rest is 0
abbrev pub pad : ℕ → List ℕ → List ℕ
pad n xs = xs ++ replicate (n - length xs) 0
