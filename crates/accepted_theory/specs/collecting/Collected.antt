-- What the small map comes to: each touched line with its interval and the number of listed nodes on it, and where a line stands in the map.
-- Rests on SmallMap and on paper's Intervals.
use Rattle.std.specs.Prelude.{ℕ, ◌≤◌, ◌<◌, cond, List, map, length, eqb}
use Rattle.lists.specs.Lists.{times, In, Distinct}
use Rattle.lists.specs.Bounds.{Below}
use Rattle.lists.specs.Weight.{total}
use Rattle.lists.specs.Found.{Found}
use Rattle.paper.specs.Map.{N}
use Rattle.paper.specs.Lookup.{lookup}
use Rattle.paper.specs.Intervals.{interval, listed_positions}
use Rattle.accepted_theory.specs.collecting.SmallMap.{Held}

-- a list of nodes that passes rules 9 and 10
pub record Listing (b list : List ℕ) : Type 0 where
  pub known : (v : ℕ) → In v list → v < N b
  pub distinct : Distinct list

-- a line as 01 has it, and how many of its nodes are listed
unfoldable pub held : List ℕ → List ℕ → List ℕ → ℕ → Held
held b a list l = record { interval = interval b a list l; count = length (listed_positions b a list l) }

-- the lines of a small map, first seen first
abbrev pub lines_in : List Held → List ℕ
lines_in hs = map (λ h. h.interval.line) hs

-- where a line stands in a small map
unfoldable pub slot : List Held → ℕ → Found
slot hs l = lookup (lines_in hs) l

-- how many positions were added to a line
unfoldable pub count_on : List Held → ℕ → ℕ
count_on hs l = total (λ h. cond (eqb l h.interval.line) h.count 0) hs

-- each line once and below k, and none without a position: so there are at most k of them
pub record Sized (k : ℕ) (hs : List Held) : Type 0 where
  pub below : Below k (lines_in hs)
  pub once : (l : ℕ) → times l (lines_in hs) ≤ 1
  pub some : (l : ℕ) → times l (lines_in hs) ≤ count_on hs l

-- a line's interval with one position
abbrev pub fresh : ℕ → ℕ → Held
fresh p l = record { interval = record { line = l; lowest = p; highest = p }; count = 1 }
