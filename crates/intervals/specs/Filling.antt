-- The test of a record: whether as many nodes as were added to its line fill its interval.
-- Rests on accepted_theory's `fills`, and on on_line's Along.
use Rattle.std.specs.Prelude.{ℕ, ◌+◌, ◌-◌, ◌*◌, ◌≤◌, ◌<◌, ◌≡◌, Bool, true, ◌&&◌, List, length, get_or, eqb, ltb}
use Rattle.lists.specs.Lists.{member}
use Rattle.lists.specs.Found.{number}
use Rattle.paper.specs.Lookup.{lookup}
use Rattle.paper.specs.Records.{record_at}
use Rattle.tables.specs.declared.Layout.{Layout}
use Rattle.on_line.specs.Along.{LineAt, positions_along}
use Rattle.intervals.specs.declared.layout.MapRoom.{MapRoom}

-- "Make sure there are `count` nodes on the line between `min` and `max`."
unfoldable pub fills_along : List ℕ → ℕ → ℕ → ℕ → Bool
fills_along positions low high count =
    let last = number (lookup positions low) + count - 1 in
    ltb last (length positions) && eqb (get_or positions last 0) high

-- how often a line was added
abbrev pub count_at : List ℕ → MapRoom → ℕ → ℕ
count_at a room x = get_or a (room.counts + x) 0

unfoldable pub fills_record : List ℕ → Layout → MapRoom → List ℕ → ℕ → Bool
fills_record a at room words i =
    let r = record_at words i in
    fills_along (positions_along a at r.line) r.lowest r.highest (count_at a room r.line)

-- line x stands in the area, a node on it at position `low`, and at least one was added
pub record Tested (a : List ℕ) (at : Layout) (x low count : ℕ) : Type 0 where
  pub line : LineAt a at x
  pub there : member low (positions_along a at x) ≡ true
  pub some : 1 ≤ count
  pub small : count < 65536

-- .. and so for record i
pub record TestedRecord (a : List ℕ) (at : Layout) (room : MapRoom) (words : List ℕ) (i : ℕ) : Type 0 where
  pub inside : room.counts + room.lines ≤ length a
  pub whole : 3 * i + 2 < length words
  pub known : (record_at words i).line < room.lines
  pub tested : Tested a at (record_at words i).line (record_at words i).lowest (count_at a room (record_at words i).line)

-- .. and for each of the `made` records
abbrev pub TestedAll : List ℕ → Layout → MapRoom → List ℕ → ℕ → Type 0
TestedAll a at room words made = (i : ℕ) → i < made → TestedRecord a at room words i
