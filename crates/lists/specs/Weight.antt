-- How often what a number stands for is found in a list, over many numbers: the sums that counting links is said with.
-- Rests on Lists.
use Rattle.std.specs.Prelude.{ℕ, Bool, cond, List, map}
use Rattle.lists.specs.Lists.{sum, times}

abbrev pub total : {A : Type 0} → (A → ℕ) → List A → ℕ
total f xs = sum (map f xs)

-- how often h k stands in us, for all k of ks that pass
abbrev pub weight : (ℕ → Bool) → (ℕ → ℕ) → List ℕ → List ℕ → ℕ
weight f h us ks = total (λ k. cond (f k) (times (h k) us) 0) ks
