-- 01, "Order" (`toposort.rs`): the state of the queue after each turn.
-- Rests on Map.
use Rattle.std.specs.Prelude.{ℕ, zero, suc, Bool, cond, length, get_or, take, drop, eqb}
use mathlib.Core.List.{List, [], ◌∷◌, ◌++◌, flat_map}
use Rattle.lists.specs.Lists.{upto, keep, count}
use Rattle.lists.specs.Found.{Found, first, is_absent}
use Rattle.paper.specs.Map.{N, link_to, in_links, out_links}

-- Every node that has joined the queue, in turn, and every link that was followed. The node taken at turn t is the one that joined t-th.
pub record Queue : Type 0 where
  pub joined : List ℕ
  pub followed : List ℕ

-- "A queue starts with the nodes without linked inputs, by number."
unfoldable pub started : List ℕ → Queue
started b = record { joined = keep (λ v. eqb (length (in_links b v)) 0) (upto (N b)); followed = [] }

-- ".. at the link that fills its last linked input": with link k, as many links to its target were followed as there are
unfoldable pub fills_last : List ℕ → List ℕ → ℕ → Bool
fills_last b followed k =
    eqb (count (λ j. eqb (link_to b j) (link_to b k)) (followed ++ (k ∷ []))) (length (in_links b (link_to b k)))

-- "a target joins .."
unfoldable pub follow : List ℕ → ℕ → Queue → Queue
follow b k q =
    record {
      joined = q.joined ++ cond (fills_last b q.followed k) (link_to b k ∷ []) [];
      followed = q.followed ++ (k ∷ []);
    }

unfoldable pub follow_all : List ℕ → List ℕ → Queue → Queue
follow_all b [] q = q
follow_all b (k ∷ ks) q = follow_all b ks (follow b k q)

-- "The front is taken; its links are followed by port and listing order": the front of turn t, while there is one
unfoldable pub turn : List ℕ → ℕ → Queue → Queue
turn b t q = follow_all b (flat_map (out_links b) (take 1 (drop t q.joined))) q

unfoldable pub queue_after : List ℕ → ℕ → Queue
queue_after b zero = started b
queue_after b (suc t) = turn b t (queue_after b t)

-- Each node joins once at most, so after N turns the queue is empty.
unfoldable pub order : List ℕ → List ℕ
order b = (queue_after b (N b)).joined

-- where a node stands in an order, or that it does not
unfoldable pub place_in : List ℕ → ℕ → Found
place_in order v = first (λ i. eqb (get_or order i 0) v) (length order)

unfoldable pub never_ordered : List ℕ → ℕ → Bool
never_ordered b v = is_absent (place_in (order b) v)
