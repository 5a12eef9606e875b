-- The rounds as they stand in the area: the steps up to a distance are marked with it, and those at it stand last.
-- Rests on paper's Path, neighbours' Linked and Met.
use Rattle.std.specs.Prelude.{ℕ, ◌+◌, ◌-◌, ◌≤◌, ◌<◌, ◌≡◌, false}
use mathlib.Core.List.{List, flat_map}
use Rattle.lists.specs.Lists.{member}
use Rattle.lists.proofs.Sections.{part}
use Rattle.paper.specs.Map.{out_neighbours}
use Rattle.paper.specs.Path.{rounds, level_at}
use Rattle.neighbours.specs.Linked.{Outgoing}
use Rattle.distances.specs.declared.Search.{Search}
use Rattle.distances.specs.declared.queue.Queue.{Queue}
use Rattle.distances.specs.Met.{Met, tells, met_size}

-- up to distance d, marks and distances tell a list's levels
pub record Told (b list a : List ℕ) (queue : Queue) (d : ℕ) : Type 0 where
  pub level : (e u : ℕ) → e ≤ d → u < queue.nodes → tells a queue u e ≡ member u (level_at b list e)

-- the queue that a search fills
abbrev pub queue_of : Search → Queue
queue_of at = record { start = at.start; nodes = at.sizes.nodes }

-- the links stand behind the distances
pub record Standing (b a : List ℕ) (at : Search) : Type 0 where
  pub linked : Outgoing b a at.sizes at.links
  pub apart : at.start + met_size at.sizes.nodes ≤ at.links.firsts

-- what the nodes of the queue from place `from` up to place `to` are linked to
unfoldable pub targets_in : List ℕ → List ℕ → ℕ → ℕ → ℕ → List ℕ
targets_in b a start from to = flat_map (out_neighbours b) (part a (start + from) (to - from))

-- after d rounds from a list `to` nodes were met, those at distance d from place `from` on
pub record Reached (b list a : List ℕ) (queue : Queue) (from to d : ℕ) : Type 0 where
  pub met : Met a queue to
  pub told : Told b list a queue d
  pub beyond : (e u : ℕ) → d < e → u < queue.nodes → tells a queue u e ≡ false
  pub last : (u : ℕ) → member u (part a (queue.start + from) (to - from)) ≡ member u (level_at b list d)
  pub all : (u : ℕ) → member u (part a queue.start to) ≡ member u (rounds b list d).met
  pub rises : from ≤ to
  pub deep : d ≤ from
