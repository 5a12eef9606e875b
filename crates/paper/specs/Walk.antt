-- 01, "The questions": the queue walk with its count, the line check, and the check by records.
-- Rests on Map (neighbours), Area and Intervals.
use Rattle.std.specs.Prelude.{ℕ, zero, suc, ◌+◌, Bool, ◌&&◌, ◌||◌, cond, length, ltb}
use mathlib.Core.List.{List, [], ◌∷◌, ◌++◌, map, flat_map}
use Rattle.lists.specs.Lists.{any, keep, member, greatest}
use Rattle.lists.specs.Found.{Found, front, listed}
use Rattle.paper.specs.Map.{L, out_neighbours}
use Rattle.paper.specs.Area.{position, lines_of, nodes_of}
use Rattle.paper.specs.Intervals.{Reply, Yes, No, Interval, Records, records, apart, intervals}

-- "M (the largest of the lowest positions)"
unfoldable pub M : List Interval → ℕ
M rs = greatest (map (λ r. r.lowest) rs)

-- the node that comes after a position on a line
unfoldable pub next_on : List ℕ → List ℕ → ℕ → ℕ → Found
next_on b a l p = front (keep (λ v. ltb p (position b a v)) (nodes_of b a l))

-- "Start, record by record, with the node after the highest on its line."
unfoldable pub start_nodes : List ℕ → List ℕ → List Interval → List ℕ
start_nodes b a rs = flat_map (λ r. listed (next_on b a r.line r.highest)) rs

-- "it stands below a record's lowest on one of its lines"
unfoldable pub stands_below : List ℕ → List ℕ → List Interval → ℕ → Bool
stands_below b a rs v = any (λ r. member r.line (lines_of b a v) && ltb (position b a v) r.lowest) rs

-- the queue and the nodes counted, the last one in front; or, once the answer is no, the nodes counted
pub data Walk : Type 0 where
  going : (queue counted : List ℕ) → Walk
  stopped : (counted : List ℕ) → Walk

-- "skip a node above M .. or seen before; count it; if it stands below .., no; else append its output neighbours"
unfoldable pub visit : List ℕ → List ℕ → List Interval → ℕ → List ℕ → List ℕ → Walk
visit b a rs v queue counted =
    cond (ltb (M rs) (position b a v) || member v counted)
    (going queue counted)
    (cond (stands_below b a rs v) (stopped (v ∷ counted)) (going (queue ++ out_neighbours b v) (v ∷ counted)))

-- "Take from the front"
unfoldable pub step : List ℕ → List ℕ → List Interval → Walk → Walk
step b a rs (going [] counted) = going [] counted
step b a rs (going (v ∷ queue) counted) = visit b a rs v queue counted
step b a rs (stopped counted) = stopped counted

unfoldable pub walk_after : List ℕ → List ℕ → List Interval → ℕ → Walk
walk_after b a rs zero = going (start_nodes b a rs) []
walk_after b a rs (suc t) = step b a rs (walk_after b a rs t)

-- "Queue empty: yes."
unfoldable pub answer_of : Walk → Reply × ℕ
answer_of (going queue counted) = (Yes, length counted)
answer_of (stopped counted) = (No, length counted)

-- A node enters the queue by a record or by a link of a counted node, so after a step for each record and each link it is empty.
unfoldable pub walk : List ℕ → List ℕ → List Interval → Reply × ℕ
walk b a rs = answer_of (walk_after b a rs (length rs + L b))

-- "no with count 0 when not contiguous; else the queue walk"
unfoldable pub walk_on : List ℕ → List ℕ → Records → Reply × ℕ
walk_on b a apart = (No, 0)
walk_on b a (records rs) = walk b a rs

unfoldable pub line_check : List ℕ → List ℕ → List ℕ → Reply × ℕ
line_check b a list = walk_on b a (intervals b a list)
