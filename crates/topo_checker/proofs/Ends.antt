-- The ends of a list of numbers with one more at its end.
-- Rests on the kit's laws of min and max.
use Prim.Native.Nat.{ℕ, ◌≤◌, min, max}
use native.Mathlib.Nat.{min-eq_left, max-eq_left, max-eq_right}
use native.Mathlib.Omega.{arith}
use mathlib.Core.Path.{◌≡◌, ap, ◌∙◌}
use mathlib.Core.List.{List, [], ◌∷◌, ◌++◌}
use lib.ListN.{length}
use Rattle.lists.specs.Lists.{greatest, least}

-- all are lower than the one more
pub greatest_more : (xs : List ℕ) (i : ℕ) → greatest xs ≤ i → greatest (xs ++ (i ∷ [])) ≡ i
greatest_more [] i h = max-eq_left h
greatest_more (x ∷ xs) i h = ap (max x) (greatest_more xs i (rest x (greatest xs) h)) ∙ max-eq_right (first x (greatest xs) h)
  where
    first : (x g : ℕ) → max x g ≤ i → x ≤ i
    first x g h = omega arith

    rest : (x g : ℕ) → max x g ≤ i → g ≤ i
    rest x g h = omega arith

pub least_more : (xs : List ℕ) (i : ℕ) → 1 ≤ length xs → greatest xs ≤ i → least (xs ++ (i ∷ [])) ≡ least xs
least_more [] i some h = absurd (omega arith)
least_more (x ∷ []) i some h = min-eq_left (first x h)
  where
    first : (x : ℕ) → max x 0 ≤ i → x ≤ i
    first x h = omega arith
least_more (x ∷ (y ∷ ys)) i some h = ap (min x) (least_more (y ∷ ys) i (omega arith) (rest x (greatest (y ∷ ys)) h))
  where
    rest : (x g : ℕ) → max x g ≤ i → g ≤ i
    rest x g h = omega arith
