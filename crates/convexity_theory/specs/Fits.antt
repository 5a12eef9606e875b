-- Records that fit a list of nodes: each one spans exactly the listed nodes of its line, and each line with a listed node has one.
-- Rests on paper's Intervals.
use Rattle.std.specs.Prelude.{ℕ, ◌≤◌, ◌<◌, ◌≡◌}
use mathlib.Core.List.{List, Memᴰ}
use Rattle.lists.specs.Lists.{In}
use Rattle.paper.specs.Area.{K, position, nodes_of}
use Rattle.paper.specs.Intervals.{Interval}

-- a listed node of a line at a position
pub record ListedAt (b a list : List ℕ) (l p : ℕ) : Type 0 where
  pub node : ℕ
  pub in_list : In node list
  pub on_line : In node (nodes_of b a l)
  pub stands : position b a node ≡ p

pub record Spans (b a list : List ℕ) (r : Interval) : Type 0 where
  pub known : r.line < K b a
  pub low : ListedAt b a list r.line r.lowest
  pub high : ListedAt b a list r.line r.highest
  pub at_least : (v : ℕ) → In v list → In v (nodes_of b a r.line) → r.lowest ≤ position b a v
  pub at_most : (v : ℕ) → In v list → In v (nodes_of b a r.line) → position b a v ≤ r.highest
  -- the line has no unlisted node between
  pub inside : (v : ℕ) → In v (nodes_of b a r.line) → r.lowest ≤ position b a v → position b a v ≤ r.highest → In v list

-- a record of a line
pub record RecordOf (rs : List Interval) (l : ℕ) : Type 0 where
  pub which : Interval
  pub there : Memᴰ which rs
  pub of_line : l ≡ which.line

pub record Fits (b a list : List ℕ) (rs : List Interval) : Type 0 where
  pub spans : (r : Interval) → Memᴰ r rs → Spans b a list r
  pub covers : (v l : ℕ) → In v list → l < K b a → In v (nodes_of b a l) → RecordOf rs l
