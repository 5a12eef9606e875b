-- Records that are the same up to their order, and a list of exactly the nodes inside records.
-- Rests on paper's Records and Allowed (a record's line).
use Rattle.std.specs.Prelude.{ℕ, ◌≤◌, ◌<◌, ◌≡◌, true}
use mathlib.Core.List.{List, Memᴰ}
use Rattle.lists.specs.Lists.{times}
use Rattle.paper.specs.Map.{N}
use Rattle.paper.specs.Intervals.{Interval, records, intervals}
use Rattle.paper.specs.Records.{inside}
use Rattle.accepted_theory.specs.recorded.Allowed.{lines}

-- the same records, each line once in both
pub record SameRecords (rs qs : List Interval) : Type 0 where
  pub there : (r : Interval) → Memᴰ r rs → Memᴰ r qs
  pub back : (r : Interval) → Memᴰ r qs → Memᴰ r rs
  pub once : (l : ℕ) → times l (lines rs) ≤ 1
  pub once_back : (l : ℕ) → times l (lines qs) ≤ 1

-- the list holds the nodes inside, and no other
pub record NodesInside (b a : List ℕ) (rs : List Interval) (list : List ℕ) : Type 0 where
  pub listed : (v : ℕ) → v < N b → inside b a rs v ≡ true → Memᴰ v list
  pub known : (v : ℕ) → Memᴰ v list → v < N b
  pub is_inside : (v : ℕ) → Memᴰ v list → inside b a rs v ≡ true

-- up to order the records are the intervals of the list
pub record UpToOrder (b a list : List ℕ) (rs : List Interval) : Type 0 where
  pub qs : List Interval
  pub found : intervals b a list ≡ records qs
  pub same : SameRecords rs qs
