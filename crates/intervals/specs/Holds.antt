-- The small map as it stands in words: a record for each line in a buffer, and in scratch, by line, which record is its and its count.
-- Rests on accepted_theory's small map and on tables' Usable and Within, and take_in's Listed.
use Rattle.std.specs.Prelude.{ℕ, ◌+◌, ◌-◌, ◌*◌, ◌≤◌, ◌<◌, min, max, ◌≡◌, List, [], ◌∷◌, length, get_or, take}
use Rattle.std.proofs.lemmas.List.Edits.{sets}
use Rattle.paper.specs.Intervals.{Interval}
use Rattle.paper.specs.Records.{record_at}
use Rattle.accepted_theory.specs.collecting.SmallMap.{Held, add_lines}
use Rattle.accepted_theory.specs.collecting.Collected.{Sized, count_on, fresh, lines_in}
use Rattle.tables.specs.Within.{Within}
use Rattle.tables.specs.declared.Layout.{Layout}
use Rattle.tables.specs.Placed.{scratch_size}
use Rattle.tables.specs.Usable.{Usable, entries_of}
use Rattle.take_in.specs.Listed.{Listed, list_in}
use Rattle.intervals.specs.declared.layout.MapRoom.{MapRoom}

-- ---- records in a buffer

abbrev pub interval_of : ℕ → ℕ → ℕ → Interval
interval_of l low high = record { line = l; lowest = low; highest = high }

-- the words with a record stored as the i-th
abbrev pub put_record : List ℕ → ℕ → Interval → List ℕ
put_record words i r = sets words (3 * i) (r.line ∷ (r.lowest ∷ (r.highest ∷ [])))

abbrev pub widened_to : ℕ → Interval → Interval
widened_to p r = interval_of r.line (min p r.lowest) (max p r.highest)

-- ---- the small map

-- a slot for each line that an area may have, then a count for each, behind a list and all of them in the scratch
pub record MapFits (at : Layout) (room : MapRoom) : Type 0 where
  pub lines : room.lines ≡ at.sizes.nodes + at.sizes.links
  pub after_list : at.scratch + at.sizes.nodes ≤ room.slots
  pub after_slots : room.slots + room.lines ≤ room.counts
  pub after_counts : room.counts + room.lines ≤ at.scratch + scratch_size at.sizes

-- how many words they are
abbrev pub map_size : MapRoom → ℕ
map_size room = room.counts + room.lines - room.slots

-- `made` records stand for a small map; a line's slot tells which record is its, if it has one, and its count how often it was added
pub record Holds (hs : List Held) (room : MapRoom) (a rs : List ℕ) (made : ℕ) : Type 0 where
  pub many : length hs ≡ made
  pub records : (i : ℕ) → i < length hs → record_at rs i ≡ (get_or hs i (fresh 0 0)).interval
  pub slotted : (i : ℕ) → i < length hs → get_or a (room.slots + get_or (lines_in hs) i 0) 0 ≡ i
  pub counted : (x : ℕ) → x < room.lines → get_or a (room.counts + x) 0 ≡ count_on hs x
  pub sized : Sized room.lines hs

-- only slots and counts were written, and whatever small map stood there, the one that a step makes of it stands there now
pub record Became (step : List Held → List Held) (room : MapRoom) (a rs : List ℕ) (made : ℕ) (m ws : List ℕ) (now : ℕ) : Type 0 where
  pub kept : Within room.slots (map_size room) a m
  pub long : length ws ≡ length rs
  pub holds : (hs : List Held) → Holds hs room a rs made → Holds (step hs) room m ws now

-- a small map stands there, with room for one record for each line
pub record Holding (room : MapRoom) (a rs : List ℕ) (made : ℕ) : Type 0 where
  pub held : List Held
  pub holds : Holds held room a rs made
  pub apart : room.slots + room.lines ≤ room.counts
  pub inside : room.counts + room.lines ≤ length a
  pub roomy : 3 * room.lines ≤ length rs
  pub few : room.lines < 65536

-- .. and a position can be added to a line
pub record Adding (room : MapRoom) (a rs : List ℕ) (made line : ℕ) : Type 0 where
  pub holding : Holding room a rs made
  pub known : line < room.lines
  pub small : get_or a (room.counts + line) 0 < 65535

-- ---- the small map of a list's nodes

-- a node's position, added to each of its lines as the area's words tell
abbrev pub add_words_of : List ℕ → Layout → ℕ → List Held → List Held
add_words_of a at v = add_lines (get_or a (at.positions + v) 0) (entries_of a at.begins at.lines v)

-- .. and the positions of some nodes
unfoldable pub add_words : List ℕ → Layout → List ℕ → List Held → List Held
add_words a at [] hs = hs
add_words a at (v ∷ vs) hs = add_words a at vs (add_words_of a at v hs)

-- a node's position can be added to all of its lines
pub record AddingNode (at : Layout) (room : MapRoom) (a rs : List ℕ) (made v : ℕ) : Type 0 where
  pub bytes : List ℕ
  pub usable : Usable bytes a at
  pub fits : MapFits at room
  pub known : v < at.sizes.nodes
  pub held : List Held
  pub holds : Holds held room a rs made
  pub roomy : 3 * room.lines ≤ length rs
  pub small : (x : ℕ) → count_on held x ≤ 512

-- before the entry e of the node's lines: those before it have its position
pub record NodeTurn (at : Layout) (room : MapRoom) (a rs : List ℕ) (made v : ℕ) (m ws : List ℕ) (now e : ℕ) : Type 0 where
  pub low : get_or a (at.begins + v) 0 ≤ e
  pub high : e ≤ get_or a (at.begins + (v + 1)) 0
  pub became : Became
      (add_lines (get_or a (at.positions + v) 0) (take (e - get_or a (at.begins + v) 0) (entries_of a at.begins at.lines v)))
      room a rs made m ws now

-- the positions of a list's nodes can be added to an empty small map
pub record AddingNodes (at : Layout) (room : MapRoom) (a rs : List ℕ) (count : ℕ) : Type 0 where
  pub bytes : List ℕ
  pub usable : Usable bytes a at
  pub fits : MapFits at room
  pub listed : Listed a at count
  pub empty : Holds [] room a rs 0
  pub roomy : 3 * room.lines ≤ length rs

-- before the list's i-th node: the positions of those before it are added
pub record NodesTurn (at : Layout) (room : MapRoom) (a rs : List ℕ) (count : ℕ) (m ws : List ℕ) (now i : ℕ) : Type 0 where
  pub high : i ≤ count
  pub became : Became (add_words a at (take i (list_in a at count))) room a rs 0 m ws now
