-- The queue walk as the code runs it: every node that ever joined the queue, each once, and how many were counted.
-- Rests on paper's Walk.
use Rattle.std.specs.Prelude.{ℕ, zero, suc, cond, List, [], ◌∷◌, ◌++◌, length, get_or, ltb}
use Rattle.lists.specs.Lists.{member}
use Rattle.paper.specs.Map.{out_neighbours}
use Rattle.paper.specs.Area.{position}
use Rattle.paper.specs.Intervals.{Interval}
use Rattle.paper.specs.Walk.{M, start_nodes, stands_below}

-- a node joins if it has not joined before
unfoldable pub join : List ℕ → ℕ → List ℕ
join joined v = cond (member v joined) joined (joined ++ (v ∷ []))

unfoldable pub join_all : List ℕ → List ℕ → List ℕ
join_all joined [] = joined
join_all joined (v ∷ vs) = join_all (join joined v) vs

-- the nodes that have joined and how many were counted; or, once the answer is no, how many were counted
pub data Marked : Type 0 where
  going : (joined : List ℕ) (counted : ℕ) → Marked
  stopped : (counted : ℕ) → Marked

unfoldable pub visit_marked : List ℕ → List ℕ → List Interval → ℕ → List ℕ → ℕ → Marked
visit_marked b a rs v joined counted =
    cond (ltb (M rs) (position b a v))
    (going joined counted)
    (cond (stands_below b a rs v) (stopped (suc counted)) (going (join_all joined (out_neighbours b v)) (suc counted)))

-- turn t takes the node that joined t-th, while there is one
unfoldable pub turn_marked : List ℕ → List ℕ → List Interval → ℕ → Marked → Marked
turn_marked b a rs t (stopped counted) = stopped counted
turn_marked b a rs t (going joined counted) =
    cond (ltb t (length joined)) (visit_marked b a rs (get_or joined t 0) joined counted) (going joined counted)

unfoldable pub marked_after : List ℕ → List ℕ → List Interval → ℕ → Marked
marked_after b a rs zero = going (join_all [] (start_nodes b a rs)) 0
marked_after b a rs (suc t) = turn_marked b a rs t (marked_after b a rs t)
