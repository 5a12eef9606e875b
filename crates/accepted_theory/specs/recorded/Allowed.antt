-- What refusals 12 and 13 ask of records, said of the records themselves.
-- Rests on paper's Records.
use Rattle.std.specs.Prelude.{ℕ, ◌≤◌, ◌<◌, ◌≡◌, true}
use mathlib.Core.List.{List, map, Memᴰ}
use Rattle.lists.specs.Lists.{times}
use Rattle.paper.specs.Map.{N}
use Rattle.paper.specs.Area.{K, position, lines_of, nodes_of}
use Rattle.paper.specs.Intervals.{Interval}
use Rattle.paper.specs.Records.{inside_on, inside}

-- the positions on a line
abbrev pub Stands : List ℕ → List ℕ → ℕ → ℕ → Type 0
Stands b a l p = Memᴰ p (map (position b a) (nodes_of b a l))

abbrev pub lines : List Interval → List ℕ
lines rs = map (λ r. r.line) rs

pub record Allowed (b a : List ℕ) (rs : List Interval) : Type 0 where
  -- 12: "line ≥ K, line used before, ends not on the line, lowest above highest"
  pub known : (r : Interval) → Memᴰ r rs → r.line < K b a
  pub once : (l : ℕ) → times l (lines rs) ≤ 1
  pub lowest_on : (r : Interval) → Memᴰ r rs → Stands b a r.line r.lowest
  pub highest_on : (r : Interval) → Memᴰ r rs → Stands b a r.line r.highest
  pub upward : (r : Interval) → Memᴰ r rs → r.lowest ≤ r.highest
  -- 13: "a node inside on one line and outside on another"
  pub whole : (v : ℕ) → v < N b → inside b a rs v ≡ true → (l : ℕ) → Memᴰ l (lines_of b a v) → inside_on b a rs v l ≡ true
