-- The map's links by output port as they stand in the area, and the queue with its counters after some turns.
-- Rests on paper's Order, tables' Layout and neighbours' Linked.
use Rattle.std.specs.Prelude.{ℕ, ◌+◌, ◌-◌, ◌≤◌, ◌≡◌, List, map, length, take, drop, eqb}
use Rattle.std.proofs.lemmas.List.Edits.{sets}
use Rattle.lists.specs.Lists.{upto, count}
use Rattle.paper.specs.Map.{link_to, in_links}
use Rattle.paper.specs.Order.{Queue, queue_after}
use Rattle.tables.specs.declared.Layout.{Layout}
use Rattle.neighbours.specs.Linked.{Outgoing}
use Rattle.neighbours.specs.declared.Listing.{Listing}

-- the links by output port stand in the area: before them room for the order, and behind them for a counter of each node
pub record Indexed (b a : List ℕ) (at : Layout) (links : Listing) : Type 0 where
  pub linked : Outgoing b a at.sizes links
  pub before : at.order + at.sizes.nodes ≤ links.firsts
  pub room : links.end + at.sizes.nodes ≤ length a

-- for each node, how many links to it are not followed
unfoldable pub open_inputs : List ℕ → ℕ → List ℕ → List ℕ
open_inputs b n followed = map (λ w. length (in_links b w) - count (λ j. eqb (link_to b j) w) followed) (upto n)

-- the area with a queue and its counters
unfoldable pub laid : List ℕ → List ℕ → Layout → Listing → Queue → List ℕ
laid b a at links q = sets (sets a at.order q.joined) links.end (open_inputs b at.sizes.nodes q.followed)

-- turn t finds the nodes that have joined by now, and the counters
pub record Standing (b a : List ℕ) (at : Layout) (links : Listing) (t joined : ℕ) : Type 0 where
  pub index : Indexed b a at links
  pub count : joined ≡ length (queue_after b t).joined
  pub queue : take joined (drop at.order a) ≡ (queue_after b t).joined
  pub counters : take at.sizes.nodes (drop links.end a) ≡ open_inputs b at.sizes.nodes (queue_after b t).followed

-- the targets of the links in the place of the keys, which the sort has left
unfoldable pub with_targets : List ℕ → List ℕ → Layout → Listing → List ℕ
with_targets b a at links = sets a links.keys (map (link_to b) (upto at.sizes.links))
