-- Records in a room that grow line by line: what is asked of the room, and what one line changes.
-- Rests on records' Slots, and on paper's Records and Refusals.
use Rattle.std.specs.Prelude.{ℕ, ◌+◌, ◌*◌, ◌≤◌, ◌<◌, ◌≡◌, ◌⊎◌, Bool, true, false, List, ◌∷◌, Option, Some, length, get_or}
use Rattle.lists.specs.Lists.{member}
use Rattle.paper.specs.Area.{K}
use Rattle.paper.specs.Intervals.{Interval, records, apart}
use Rattle.paper.specs.Records.{record_at, records_in, grow, extend_line, extend_lines}
use Rattle.paper.specs.Refusals.{on_line}
use Rattle.tables.specs.declared.Layout.{Layout}
use Rattle.tables.specs.Recorded.{Unmarked, Marked}
use Rattle.records.specs.declared.layout.LineSlots.{LineSlots}
use Rattle.extension.specs.Extended.{records_left}

-- ---- one record

abbrev pub record_of : ℕ → ℕ → ℕ → Interval
record_of x low high = record { line = x; lowest = low; highest = high }

-- record i is this one now, and the others are as they were
pub record Put (room : List ℕ) (i : ℕ) (r : Interval) (after : List ℕ) : Type 0 where
  pub own : record_at after i ≡ r
  pub others : (j : ℕ) → (j ≡ i → ⊥) → record_at after j ≡ record_at room j
  pub long : length after ≡ length room

-- record i can grow by a position, on a line with these positions: it stands in the room, and its highest and the position stand on the line
pub record Growing (line room : List ℕ) (i p : ℕ) : Type 0 where
  pub whole : 3 * i + 2 < length room
  pub upright : (record_at room i).lowest ≤ (record_at room i).highest
  pub high : member (record_at room i).highest line ≡ true
  pub here : member p line ≡ true
  pub word : p < 65536

-- record i grew as 01 says, or could not
pub record Grew (line room : List ℕ) (i p : ℕ) (grown : Bool) (after : List ℕ) : Type 0 where
  pub grows : grown ≡ true → (rest : List Interval) → grow line p (record_at room i) rest ≡ records (record_at after i ∷ rest)
  pub stops : grown ≡ false → (rest : List Interval) → grow line p (record_at room i) rest ≡ apart
  pub kept : (record_at after i).line ≡ (record_at room i).line
  pub others : (j : ℕ) → (j ≡ i → ⊥) → record_at after j ≡ record_at room j
  pub long : length after ≡ length room

-- ---- one line

-- the records stand on lines of the tables, each on one of its own
pub record OwnLines (b a room : List ℕ) (made : ℕ) : Type 0 where
  pub known : (j : ℕ) → j < made → (record_at room j).line < K b a
  pub lone : (i j : ℕ) → i < j → j < made → (record_at room i).line ≡ (record_at room j).line → ⊥

-- line x is still as its mark and its slot tell, and a record on it ends on it, its lowest no higher than its highest
pub record Ahead (b a : List ℕ) (slots : LineSlots) (room : List ℕ) (made x : ℕ) : Type 0 where
  pub slot : Unmarked a room made slots.marks x ⊎ Marked a room made slots.numbers slots.marks x
  pub high : (j : ℕ) → j < made → (record_at room j).line ≡ x → on_line b a x (record_at room j).highest ≡ true
  pub upright : (j : ℕ) → j < made → (record_at room j).line ≡ x → (record_at room j).lowest ≤ (record_at room j).highest

-- what extending on line x asks
pub record LineReady (b a : List ℕ) (at : Layout) (slots : LineSlots) (room : List ℕ) (made p x : ℕ) : Type 0 where
  pub own : OwnLines b a room made
  pub ahead : Ahead b a slots room made x
  pub known : x < K b a
  pub here : on_line b a x p ≡ true
  pub word : p < 65536
  pub fits : 3 * (at.sizes.nodes + at.sizes.links) ≤ length room

-- only a record on line x changed, and kept its line; or the line had none, and a new one is last
pub record Changed (room : List ℕ) (made x : ℕ) (after : List ℕ) (count : ℕ) : Type 0 where
  pub least : made ≤ count
  pub most : count ≤ made + 1
  pub lines : (j : ℕ) → j < made → (record_at after j).line ≡ (record_at room j).line
  pub others : (j : ℕ) → j < made → ((record_at room j).line ≡ x → ⊥) → record_at after j ≡ record_at room j
  pub new : made < count → (record_at after made).line ≡ x
  pub free : made < count → (j : ℕ) → j < made → (record_at room j).line ≡ x → ⊥

pub record LineExtended (b a room : List ℕ) (made p x : ℕ) (r : Option ℕ) (after : List ℕ) : Type 0 where
  pub says : records_left r after ≡ extend_line b a p x (records_in room made)
  pub changed : (count : ℕ) → r ≡ Some count → Changed room made x after count
  pub long : length after ≡ length room

-- ---- the lines of a node

pub record LinesReady (b a : List ℕ) (at : Layout) (slots : LineSlots) (lines room : List ℕ) (made p : ℕ) : Type 0 where
  pub own : OwnLines b a room made
  pub ahead : (j : ℕ) → j < length lines → Ahead b a slots room made (get_or lines j 0)
  pub known : (j : ℕ) → j < length lines → get_or lines j 0 < K b a
  pub here : (j : ℕ) → j < length lines → on_line b a (get_or lines j 0) p ≡ true
  pub lone : (i j : ℕ) → i < j → j < length lines → get_or lines i 0 ≡ get_or lines j 0 → ⊥
  pub word : p < 65536
  pub fits : 3 * (at.sizes.nodes + at.sizes.links) ≤ length room

pub record LinesExtended (b a lines room : List ℕ) (made p : ℕ) (r : Option ℕ) (after : List ℕ) : Type 0 where
  pub says : records_left r after ≡ extend_lines b a p lines (records (records_in room made))
  pub whole : (count : ℕ) → r ≡ Some count → 3 * count ≤ length after
  pub long : length after ≡ length room

-- the first `taken` words are copied
pub record Copied (words : List ℕ) (taken : ℕ) (room after : List ℕ) : Type 0 where
  pub same : (j : ℕ) → j < taken → get_or after j 0 ≡ get_or words j 0
  pub long : length after ≡ length room
