-- Two areas whose tables read the same, as far as lines and nodes are known: all that the questions read of an area.
-- Rests on paper's Area and on Every.
use Rattle.std.specs.Prelude.{ℕ, ◌<◌, ◌≡◌, List}
use Rattle.paper.specs.Map.{N}
use Rattle.paper.specs.Area.{K, order_of, position, lines_of, nodes_of}
use Rattle.paper.specs.Intervals.{Interval, Records, records, apart}
use Rattle.accepted_theory.specs.Every.{Every}

-- nodes of the map, lines of the tables, and records on such lines
abbrev pub KnownNode : List ℕ → ℕ → Type 0
KnownNode b v = v < N b

abbrev pub KnownLine : List ℕ → List ℕ → ℕ → Type 0
KnownLine b a l = l < K b a

abbrev pub KnownRecord : List ℕ → List ℕ → Interval → Type 0
KnownRecord b a r = r.line < K b a

abbrev pub KnownRecords : List ℕ → List ℕ → Records → Type 0
KnownRecords b a (records rs) = Every (KnownRecord b a) rs
KnownRecords b a apart = Unit {0}

pub record SameTables (b a c : List ℕ) : Type 0 where
  pub count : K b a ≡ K b c
  pub order : order_of b a ≡ order_of b c
  pub positions : (v : ℕ) → v < N b → position b a v ≡ position b c v
  pub lines : (v : ℕ) → v < N b → lines_of b a v ≡ lines_of b c v
  pub nodes : (l : ℕ) → l < K b a → nodes_of b a l ≡ nodes_of b c l
  -- a node lists known lines, a line known nodes
  pub lines_known : (v : ℕ) → v < N b → Every (KnownLine b a) (lines_of b a v)
  pub nodes_known : (l : ℕ) → l < K b a → Every (KnownNode b) (nodes_of b a l)
