-- The Rust's small map from lines to intervals with a count, filled one position at a time (`small_map_add`), and its test of a line.
-- Rests on paper's Intervals and Lookup.
use Rattle.std.specs.Prelude.{ℕ, ◌+◌, ◌-◌, min, max, Bool, ◌&&◌, cond, List, [], ◌∷◌, map, length, get_or, eqb, ltb}
use Rattle.lists.specs.Found.{number}
use Rattle.paper.specs.Area.{position, lines_of, nodes_of}
use Rattle.paper.specs.Intervals.{Interval}
use Rattle.paper.specs.Lookup.{lookup}

-- a line's interval, and how many positions were added to it
pub record Held : Type 0 where
  pub interval : Interval
  pub count : ℕ

unfoldable pub widened : Held → ℕ → Held
widened h p =
    record {
      interval =
          record {
            line = h.interval.line;
            lowest = min p h.interval.lowest;
            highest = max p h.interval.highest;
          };
      count = h.count + 1;
    }

-- `small_map_add`: "Add a position to the interval on the given line."
unfoldable pub add : ℕ → ℕ → List Held → List Held
add p l [] = record { interval = record { line = l; lowest = p; highest = p }; count = 1 } ∷ []
add p l (h ∷ hs) = cond (eqb h.interval.line l) (widened h p ∷ hs) (h ∷ add p l hs)

unfoldable pub add_lines : ℕ → List ℕ → List Held → List Held
add_lines p [] hs = hs
add_lines p (l ∷ ls) hs = add_lines p ls (add p l hs)

unfoldable pub add_nodes : List ℕ → List ℕ → List ℕ → List Held → List Held
add_nodes b a [] hs = hs
add_nodes b a (v ∷ vs) hs = add_nodes b a vs (add_lines (position b a v) (lines_of b a v) hs)

-- "Make sure there are `count` nodes on the line between `min` and `max`.": the node count - 1 places after the lowest is the highest
unfoldable pub fills : List ℕ → List ℕ → Held → Bool
fills b a h =
    let positions = map (position b a) (nodes_of b a h.interval.line) in
    let last = number (lookup positions h.interval.lowest) + h.count - 1 in
    ltb last (length positions) && eqb (get_or positions last 0) h.interval.highest
