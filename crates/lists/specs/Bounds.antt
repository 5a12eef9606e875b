-- Two notions of lists that the theorems name.
-- Rests on lists.
use Rattle.std.specs.Prelude.{ℕ, ◌≤◌, ◌≡◌, List, ◌++◌}
use Rattle.lists.specs.Lists.{times}

-- a list of numbers below n, by counts
abbrev pub Below : ℕ → List ℕ → Type 0
Below n xs = (k : ℕ) → n ≤ k → times k xs ≡ 0

-- a list that begins with another
pub record Extends (xs ys : List ℕ) : Type 0 where
  pub rest : List ℕ
  pub whole : ys ≡ xs ++ rest
