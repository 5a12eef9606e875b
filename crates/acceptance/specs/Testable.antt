-- What the acceptance test asks of a map and an area, and what its test of the order says.
-- Rests on paper's Accepted, stepmap's ReadWell and tables' Placed.
use Rattle.std.specs.Prelude.{ℕ, ◌≤◌, ◌<◌, ◌≡◌, List, length}
use Rattle.lists.specs.Lists.{times}
use Rattle.paper.specs.Map.{N, L, link_from, link_to}
use Rattle.paper.specs.Order.{place_in}
use Rattle.paper.specs.Area.{order_of}
use Rattle.paper.specs.Accepted.{GoesBefore}
use Rattle.paper.specs.Refusals.{passed, rule45}
use Rattle.stepmap.specs.Formed.{ReadWell}
use Rattle.tables.specs.Placed.{Placed}
use Rattle.tables.specs.declared.Layout.{Layout}

-- a map that passes 1, 2, 4 and 5, and an area that passes 3, with its sections in their places; nothing is asked of the words
pub record Testable (b a : List ℕ) (at : Layout) : Type 0 where
  pub read : ReadWell b at.sizes.nodes at.sizes.links at.sizes.ports
  pub placed : Placed b at
  pub links : rule45 b ≡ passed
  pub room : at.end ≤ length a

-- "The order holds each node once." "Every link goes forward in the order."
pub record Ordered (b a : List ℕ) : Type 0 where
  pub each_once : (v : ℕ) → v < N b → times v (order_of b a) ≡ 1
  pub forward : (k : ℕ) → k < L b → GoesBefore (place_in (order_of b a) (link_from b k)) (place_in (order_of b a) (link_to b k))
