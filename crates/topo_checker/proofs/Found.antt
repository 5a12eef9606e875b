-- A search among the numbers below a bound is the test of any of them.
-- Rests on lists' words for numbers in a row.
use Rattle.std.proofs.Common.{Bool, List, [], add-one, ap, refl, suc, zero, ℕ, ◌∙◌, ◌||◌, ◌∷◌, ◌≡◌}
use Rattle.std.specs.List.{list_any, range_with_len}
use Rattle.lists.specs.Lists.{any, from, upto}

numbers_same : (a n : ℕ) → range_with_len a n ≡ from a n
numbers_same a zero = refl
numbers_same a (suc n) = ap (λ (xs : List ℕ). a ∷ xs) (ap (λ (k : ℕ). range_with_len k n) (add-one a) ∙ numbers_same (suc a) n)

module _ (f : ℕ → Bool) where
  searched : (xs : List ℕ) → list_any f xs ≡ any f xs
  searched [] = refl
  searched (x ∷ xs) = ap (λ (t : Bool). f x || t) (searched xs)

  pub any_found : (n : ℕ) → list_any f (range_with_len 0 n) ≡ any f (upto n)
  any_found n = searched (range_with_len 0 n) ∙ ap (any f) (numbers_same 0 n)
