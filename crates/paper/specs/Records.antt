-- 01, "The questions": records in a buffer of words, extend, and nodes in records.
-- Rests on Area and Intervals.
use Rattle.std.specs.Prelude.{ℕ, ◌+◌, ◌*◌, Bool, ◌&&◌, cond, get_or, eqb, ltb}
use mathlib.Core.List.{List, [], ◌∷◌, map, flat_map}
use Rattle.lists.specs.Lists.{upto, any, keep, sort_by}
use Rattle.lists.specs.Found.{Found, is_at, front}
use Rattle.paper.specs.Map.{N}
use Rattle.paper.specs.Area.{position, lines_of, nodes_of}
use Rattle.paper.specs.Intervals.{Interval, Records, records, apart, within}

-- ---- records as words: line, lowest, highest

unfoldable pub record_at : List ℕ → ℕ → Interval
record_at words i = record { line = get_or words (3 * i) 0; lowest = get_or words (3 * i + 1) 0; highest = get_or words (3 * i + 2) 0 }

unfoldable pub records_in : List ℕ → ℕ → List Interval
records_in words n = map (record_at words) (upto n)

unfoldable pub words_of_records : List Interval → List ℕ
words_of_records rs = flat_map (λ r. r.line ∷ r.lowest ∷ r.highest ∷ []) rs

-- ---- "Extend: one node, on all its lines, each next to the interval or inside it or new"

-- the positions along a line
abbrev pub along : List ℕ → List ℕ → ℕ → List ℕ
along b a l = map (position b a) (nodes_of b a l)

-- the position that comes after one along a line
unfoldable pub next_position : List ℕ → ℕ → Found
next_position line p = front (keep (ltb p) line)

-- "next to the interval": the lowest comes after the position ..
unfoldable pub next_below : List ℕ → Interval → ℕ → Bool
next_below line r p = is_at r.lowest (next_position line p)

-- .. or the position comes after the highest
unfoldable pub next_above : List ℕ → Interval → ℕ → Bool
next_above line r p = is_at p (next_position line r.highest)

-- a record with a position on its line: "next to the interval or inside it", else "not extendable"
unfoldable pub grow : List ℕ → ℕ → Interval → List Interval → Records
grow line p r rest =
    cond (next_below line r p) (records (record { line = r.line; lowest = p; highest = r.highest } ∷ rest))
    (cond (next_above line r p) (records (record { line = r.line; lowest = r.lowest; highest = p } ∷ rest))
    (cond (within r p) (records (r ∷ rest)) apart))

unfoldable pub behind : Interval → Records → Records
behind r (records rs) = records (r ∷ rs)
behind r apart = apart

-- ".. or new", "new records last"
unfoldable pub extend_line : List ℕ → List ℕ → ℕ → ℕ → List Interval → Records
extend_line b a p l [] = records (record { line = l; lowest = p; highest = p } ∷ [])
extend_line b a p l (r ∷ rs) = cond (eqb r.line l) (grow (along b a l) p r rs) (behind r (extend_line b a p l rs))

-- ".. in the node's line order; else "not extendable""
unfoldable pub extend_lines : List ℕ → List ℕ → ℕ → List ℕ → Records → Records
extend_lines b a p [] e = e
extend_lines b a p (l ∷ ls) apart = apart
extend_lines b a p (l ∷ ls) (records rs) = extend_lines b a p ls (extend_line b a p l rs)

unfoldable pub extend : List ℕ → List ℕ → List Interval → ℕ → Records
extend b a rs v = extend_lines b a (position b a v) (lines_of b a v) (records rs)

-- ---- "Nodes in records: by position, then number, each once."

-- a node is inside on a line; "a line with no record is outside"
unfoldable pub inside_on : List ℕ → List ℕ → List Interval → ℕ → ℕ → Bool
inside_on b a rs v l = any (λ r. eqb r.line l && within r (position b a v)) rs

unfoldable pub inside : List ℕ → List ℕ → List Interval → ℕ → Bool
inside b a rs v = any (inside_on b a rs v) (lines_of b a v)

unfoldable pub nodes_in : List ℕ → List ℕ → List Interval → List ℕ
nodes_in b a rs = sort_by (position b a) (keep (inside b a rs) (upto (N b)))
