-- The way back as the marks and distances of the area tell it: the step before, and the path written from its end.
-- Rests on paper's Map, neighbours' Linked and distances' Met.
use Rattle.std.specs.Prelude.{ℕ, zero, suc, ◌+◌, ◌≤◌, ◌≡◌, true, List, [], ◌∷◌, ◌++◌, map, length}
use Rattle.lists.specs.Lists.{any, keep, least}
use Rattle.paper.specs.Map.{link_from, in_links}
use Rattle.neighbours.specs.Linked.{Incoming}
use Rattle.distances.specs.declared.queue.Queue.{Queue}
use Rattle.distances.specs.Met.{tells, met_size}
use Rattle.back_path.specs.declared.writing.Back.{Back}

-- the links by input port stand where the way back reads them, and there is room for what it reads of the nodes that were met
pub record Sourced (b a : List ℕ) (back : Back) : Type 0 where
  pub links : ℕ
  pub ports : ℕ
  pub keys : ℕ
  pub end : ℕ
  pub linked :
      Incoming b a (record { nodes = back.queue.nodes; links = links; ports = ports })
      (record { firsts = back.firsts; keys = keys; starts = back.starts; sorted = back.sorted; end = end })
  pub room : back.queue.start + met_size back.queue.nodes ≤ length a

-- the nodes that are linked to v, by input port
unfoldable pub in_neighbours : List ℕ → ℕ → List ℕ
in_neighbours b v = map (link_from b) (in_links b v)

-- the smallest of them that is marked with distance d
unfoldable pub step_told : List ℕ → List ℕ → Queue → ℕ → ℕ → ℕ
step_told b a queue d v = least (keep (λ u. tells a queue u d) (in_neighbours b v))

-- the path over d links to v
unfoldable pub way_told : List ℕ → List ℕ → Queue → ℕ → ℕ → List ℕ
way_told b a queue zero v = v ∷ []
way_told b a queue (suc d) v = way_told b a queue d (step_told b a queue d v) ++ (v ∷ [])

-- each step has one before it
unfoldable pub HasWay : List ℕ → List ℕ → Queue → ℕ → ℕ → Type 0
HasWay b a queue zero v = Unit {0}
HasWay b a queue (suc d) v =
    (any (λ u. tells a queue u d) (in_neighbours b v) ≡ true) × HasWay b a queue d (step_told b a queue d v)
