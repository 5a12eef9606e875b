-- What the theorems on cycles and on refusal 6 speak of.
-- Rests on paper.Order and paper.Plain.
use Rattle.std.specs.Prelude.{ℕ, ◌<◌, List}
use Rattle.lists.specs.Lists.{In}
use Rattle.paper.specs.Map.{N}
use Rattle.paper.specs.Order.{order}
use Rattle.paper.specs.Plain.{DirectedPath}

-- every node stands in the order
abbrev pub AllOrdered : List ℕ → Type 0
AllOrdered b = (v : ℕ) → v < N b → In v (order b)

-- no directed path comes back to where it starts
abbrev pub NoCycle : List ℕ → Type 0
NoCycle b = (v : ℕ) → DirectedPath b v v → ⊥

-- the lowest node that does not stand in the order
pub record Lowest (b : List ℕ) (v : ℕ) : Type 0 where
  pub known : v < N b
  pub out : In v (order b) → ⊥
  pub below : (u : ℕ) → u < v → In u (order b)
