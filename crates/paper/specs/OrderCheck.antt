-- 01, "The questions": the order check, `TopoConvexChecker` (`topo_convex_checker.rs`) step by step, by places in the order.
-- Rests on Map (neighbours), Area and Order (a node's place).
use Rattle.std.specs.Prelude.{ℕ, zero, suc, Bool, ◌&&◌, not, cond, List, [], ◌∷◌, map, length, get_or, leb, ltb}
use Rattle.lists.specs.Lists.{upto, any, keep, member, greatest, least, put}
use Rattle.lists.specs.Found.{number}
use Rattle.paper.specs.Map.{N, out_neighbours}
use Rattle.paper.specs.Order.{place_in}
use Rattle.paper.specs.Area.{order_of}
use Rattle.paper.specs.Intervals.{Reply, Yes, No}

-- "on the list as a set": the places of its nodes, rising
unfoldable pub places_of : List ℕ → List ℕ → List ℕ → List ℕ
places_of b a list = keep (λ i. member (get_or (order_of b a) i 0) list) (upto (N b))

-- `node_range`: from the first place of the list to its last
unfoldable pub in_range : List ℕ → ℕ → Bool
in_range places i = leb (least places) i && leb i (greatest places)

-- the places in the range of a place's output neighbours
unfoldable pub neighbour_places : List ℕ → List ℕ → List ℕ → ℕ → List ℕ
neighbour_places b a places i =
    keep (in_range places) (map (λ v. number (place_in (order_of b a) v)) (out_neighbours b (get_or (order_of b a) i 0)))

-- a set of places, rising
unfoldable pub insert : ℕ → List ℕ → List ℕ
insert i set = cond (member i set) set (put (λ j. j) i set)

unfoldable pub insert_all : List ℕ → List ℕ → List ℕ
insert_all [] set = set
insert_all (i ∷ is) set = insert_all is (insert i set)

-- `node_iter` and `other_nodes`; or that the answer is no
pub data Topo : Type 0 where
  going : (nodes others : List ℕ) → Topo
  fed_back : Topo

-- `node_iter.next()`: the neighbours outside the list are in its future
unfoldable pub pass_node : List ℕ → List ℕ → List ℕ → ℕ → List ℕ → List ℕ → Topo
pass_node b a places i nodes others =
    going nodes (insert_all (keep (λ j. not (member j places)) (neighbour_places b a places i)) others)

-- `other_nodes.pop_first()`: a node outside the list and in its future must not feed the list
unfoldable pub pass_other : List ℕ → List ℕ → List ℕ → ℕ → List ℕ → List ℕ → Topo
pass_other b a places j nodes others =
    let neighbours = neighbour_places b a places j in
    cond (any (λ i. member i places) neighbours) fed_back (going nodes (insert_all neighbours others))

-- the lower of the two goes first
unfoldable pub step_topo : List ℕ → List ℕ → List ℕ → Topo → Topo
step_topo b a places fed_back = fed_back
step_topo b a places (going [] others) = going [] others
step_topo b a places (going (i ∷ nodes) []) = pass_node b a places i nodes []
step_topo b a places (going (i ∷ nodes) (j ∷ others)) =
    cond (ltb i j) (pass_node b a places i nodes (j ∷ others)) (pass_other b a places j (i ∷ nodes) others)

unfoldable pub topo_after : List ℕ → List ℕ → List ℕ → ℕ → Topo
topo_after b a places zero = going places []
topo_after b a places (suc t) = step_topo b a places (topo_after b a places t)

unfoldable pub reply_of : Topo → Reply
reply_of (going nodes others) = Yes
reply_of fed_back = No

-- Each step passes a place higher than the last one, so N steps are enough. "yes for no node", and for one
unfoldable pub order_check : List ℕ → List ℕ → List ℕ → Reply
order_check b a list =
    let places = places_of b a list in
    cond (leb (length places) 1) Yes (reply_of (topo_after b a places (N b)))
