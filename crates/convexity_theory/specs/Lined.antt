-- What demand 3 needs of accepted tables: a link is two neighbours on a line, neighbours on a line are linked, and positions rise along it.
-- Rests on paper's Area and Plain.
use Rattle.std.specs.Prelude.{ℕ, ◌<◌, ◌≡◌, ◌⊎◌, List, [], ◌∷◌, map}
use Rattle.lists.specs.Lists.{In, Rising}
use Rattle.paper.specs.Map.{N}
use Rattle.paper.specs.Area.{K, position, lines_of, nodes_of}
use Rattle.paper.specs.Plain.{Linked}

-- v comes right after u on a line
abbrev pub RightAfter : ℕ → ℕ → List ℕ → Type 0
RightAfter u v [] = ⊥
RightAfter u v (x ∷ []) = ⊥
RightAfter u v (x ∷ (y ∷ ys)) = ((u ≡ x) × (v ≡ y)) ⊎ RightAfter u v (y ∷ ys)

-- .. on one of the lines
pub record Neighbours (b a : List ℕ) (u v : ℕ) : Type 0 where
  pub line : ℕ
  pub known : line < K b a
  pub after : RightAfter u v (nodes_of b a line)

pub record Lined (b a : List ℕ) : Type 0 where
  pub rises : (l : ℕ) → l < K b a → Rising (map (position b a) (nodes_of b a l))
  -- the node lists the line, and the line lists the node
  pub lists : (v l : ℕ) → l < K b a → In v (nodes_of b a l) → In l (lines_of b a v)
  pub known : (v l : ℕ) → v < N b → In l (lines_of b a v) → l < K b a
  pub listed : (v l : ℕ) → v < N b → In l (lines_of b a v) → In v (nodes_of b a l)
  pub neighbours : {u v : ℕ} → Linked b u v → Neighbours b a u v
  pub linked : (l : ℕ) → l < K b a → (u v : ℕ) → RightAfter u v (nodes_of b a l) → Linked b u v
