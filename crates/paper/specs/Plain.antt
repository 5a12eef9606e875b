-- Demand 3's plain notions: a directed path over links, `Convex`, what a list reaches, and the count of nodes.
-- Rests on Map, Area and Intervals.
use Rattle.std.specs.Prelude.{ℕ, ◌≤◌, ◌<◌, ◌≡◌, ◌↔◌, List, map, length}
use Rattle.lists.specs.Lists.{In, Distinct, greatest}
use Rattle.paper.specs.Map.{L, link_from, link_to}
use Rattle.paper.specs.Area.{position}
use Rattle.paper.specs.Intervals.{touched, interval}

-- a link from u to v
pub record Linked (b : List ℕ) (u v : ℕ) : Type 0 where
  pub link : ℕ
  pub known : link < L b
  pub source : link_from b link ≡ u
  pub target : link_to b link ≡ v

-- a directed path: one link, or a link and a path on from its target
pub data DirectedPath (b : List ℕ) : ℕ → ℕ → Type 0 where
  link : {u v : ℕ} → Linked b u v → DirectedPath b u v
  onward : {u v w : ℕ} → Linked b u v → DirectedPath b v w → DirectedPath b u w

-- "no directed path starts in the list, passes a step outside it and ends in it"
abbrev pub Convex : List ℕ → List ℕ → Type 0
Convex b list =
    (u x w : ℕ) → In u list → DirectedPath b u x → (In x list → ⊥) → DirectedPath b x w → In w list → ⊥

-- a step "that some directed path from it reaches"
abbrev pub Reached : List ℕ → List ℕ → ℕ → Type 0
Reached b list x = (u : ℕ) × In u list × DirectedPath b u x

-- "the highest of its lines' lowest listed positions"
unfoldable pub highest_lowest : List ℕ → List ℕ → List ℕ → ℕ
highest_lowest b a list = greatest (map (λ l. (interval b a list l).lowest) (touched b a list))

-- "outside the list", reached, and standing "no higher"
pub record Ahead (b a list : List ℕ) (x : ℕ) : Type 0 where
  pub outside : In x list → ⊥
  pub reached : Reached b list x
  pub no_higher : position b a x ≤ highest_lowest b a list

-- "exactly the number of steps": they can be written down, each once, and are n
pub record Number (Is : ℕ → Type 0) (n : ℕ) : Type 0 where
  pub steps : List ℕ
  pub once : Distinct steps
  pub exactly : (x : ℕ) → In x steps ↔ Is x
  pub size : length steps ≡ n
