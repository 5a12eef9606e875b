-- What 01's walk knows of its queue and of the nodes counted, while it goes and once it has stopped; and what a no of the line check says.
-- Rests on paper's Walk and Plain.
use Rattle.std.specs.Prelude.{ℕ, suc, ◌+◌, ◌≤◌, ◌<◌, ◌≡◌, ◌⊎◌, true, false, List, ◌∷◌, length}
use Rattle.lists.specs.Lists.{In, Distinct}
use Rattle.paper.specs.Map.{L}
use Rattle.paper.specs.Area.{position}
use Rattle.paper.specs.Intervals.{Interval, records, apart, intervals}
use Rattle.paper.specs.Walk.{M, start_nodes, stands_below, walk_after, stopped}
use Rattle.paper.specs.Plain.{Linked, Reached, Ahead}

-- a node outside the list that a directed path from it reaches
pub record Beyond (b list : List ℕ) (x : ℕ) : Type 0 where
  pub outside : In x list → ⊥
  pub reached : Reached b list x

-- a node that was counted
pub record Counted (b a list : List ℕ) (rs : List Interval) (x : ℕ) : Type 0 where
  pub beyond : Beyond b list x
  pub no_higher : position b a x ≤ M rs

-- .. and does not stand below a record's lowest
pub record Passed (b a list : List ℕ) (rs : List Interval) (x : ℕ) : Type 0 where
  pub counted : Counted b a list rs x
  pub clear : stands_below b a rs x ≡ false

-- a node that the walk will not miss: it waits, was counted, or stands above M
abbrev pub Seen : List ℕ → List ℕ → List Interval → List ℕ → List ℕ → ℕ → Type 0
Seen b a rs queue counted x = In x queue ⊎ (In x counted ⊎ (M rs < position b a x))

pub record Going (b a list : List ℕ) (rs : List Interval) (queue counted : List ℕ) : Type 0 where
  pub once : Distinct counted
  pub waiting : (x : ℕ) → In x queue → Beyond b list x
  pub passed : (x : ℕ) → In x counted → Passed b a list rs x
  pub starts : (x : ℕ) → In x (start_nodes b a rs) → Seen b a rs queue counted x
  pub onward : (u v : ℕ) → In u counted → Linked b u v → Seen b a rs queue counted v

-- the nodes counted, the last one in front
pub record Halted (b a list : List ℕ) (rs : List Interval) (counted : List ℕ) : Type 0 where
  pub last : ℕ
  pub earlier : List ℕ
  pub whole : counted ≡ last ∷ earlier
  pub once : Distinct (last ∷ earlier)
  pub last_counted : Counted b a list rs last
  pub stands : stands_below b a rs last ≡ true
  pub passed : (x : ℕ) → In x earlier → Passed b a list rs x

-- the walk's own no with c nodes counted: the last one stands below a record's lowest, and none before it does
pub record StoppedAt (b a list : List ℕ) (rs : List Interval) (c : ℕ) : Type 0 where
  pub last : ℕ
  -- those counted before, the latest in front
  pub earlier : List ℕ
  pub walked : walk_after b a rs (length rs + L b) ≡ stopped (last ∷ earlier)
  pub size : suc (length earlier) ≡ c
  pub once : Distinct (last ∷ earlier)
  pub ahead : (x : ℕ) → In x (last ∷ earlier) → Ahead b a list x
  pub stands : stands_below b a rs last ≡ true
  pub before : (x : ℕ) → In x earlier → stands_below b a rs x ≡ false

-- "no with count 0 when not contiguous; else the queue walk"
pub data NoBy (b a list : List ℕ) (c : ℕ) : Type 0 where
  by_gap : intervals b a list ≡ apart → c ≡ 0 → NoBy b a list c
  by_walk : (rs : List Interval) → intervals b a list ≡ records rs → StoppedAt b a list rs c → NoBy b a list c
