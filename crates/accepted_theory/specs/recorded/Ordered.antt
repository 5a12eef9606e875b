-- 01, "Nodes in records: by position, then number": what that order is.
-- Rests on lists.
use Rattle.std.specs.Prelude.{ℕ, ◌<◌, ◌≡◌, ◌⊎◌, List, [], ◌∷◌}
use Rattle.lists.specs.Lists.{In}

module _ (key : ℕ → ℕ) where
  -- one node comes before another: by key, then number
  abbrev pub Before : ℕ → ℕ → Type 0
  Before u v = (key u < key v) ⊎ ((key u ≡ key v) × (u < v))

  -- each node comes before all that stand after it
  abbrev pub Ordered : List ℕ → Type 0
  Ordered [] = Unit {0}
  Ordered (u ∷ vs) = ((v : ℕ) → In v vs → Before u v) × Ordered vs
