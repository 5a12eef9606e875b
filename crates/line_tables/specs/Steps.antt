-- One line taken, one line pushed: what each step reads and writes in the area.
-- Rests on Room.
use Rattle.std.specs.Prelude.{ℕ, zero, suc, ◌+◌, ◌-◌, ◌≤◌, ◌<◌, max, List, length, get_or, set}
use Rattle.paper.specs.Map.{link_from}
use Rattle.stepmap.specs.Formed.{HasLink}
use Rattle.tables.specs.declared.Layout.{Layout}
use Rattle.line_tables.specs.declared.room.Room.{Room}

-- a port's stack has a line
pub record Popping (a : List ℕ) (room : Room) (port : ℕ) : Type 0 where
  pub apart : room.tops + port < room.stack
  pub some : 1 ≤ get_or a (room.tops + port) 0
  pub inside : room.stack + get_or a (room.tops + port) 0 ≤ length a

-- .. has room for a line
pub record Pushing (a : List ℕ) (room : Room) (port : ℕ) : Type 0 where
  pub apart : room.tops + port < room.stack
  pub inside : room.stack + get_or a (room.tops + port) 0 < length a
  pub small : get_or a (room.tops + port) 0 < 65535

-- the area with one line more on a port's stack
unfoldable pub pushed : List ℕ → Room → ℕ → ℕ → List ℕ
pushed a room port line =
    set (set a (room.stack + get_or a (room.tops + port) 0) line) (room.tops + port) (get_or a (room.tops + port) 0 + 1)

-- ---- the line of the link at a place by input port goes to the word `to`

abbrev pub link_in : List ℕ → Room → ℕ → ℕ
link_in a room place = get_or a (room.in_sorted + place) 0

abbrev pub port_of : List ℕ → Room → ℕ → ℕ
port_of a room k = get_or a (room.ports + k) 0

abbrev pub top_of : List ℕ → Room → ℕ → ℕ
top_of a room q = get_or a (room.tops + q) 0

pub record TakingLine (b a : List ℕ) (at : Layout) (room : Room) (place to : ℕ) : Type 0 where
  pub place-inside : room.in_sorted + place < length a
  pub link-inside : room.ports + link_in a room place < length a
  pub source-inside : at.positions + link_from b (link_in a room place) < length a
  pub record_there : HasLink b at.sizes.nodes (link_in a room place)
  pub popping : Popping a room (port_of a room (link_in a room place))
  pub to-inside : to < length a
  pub shallow : get_or a (at.positions + link_from b (link_in a room place)) 0 < 65535

-- the area with the top of that line's port one lower, and the line at `to`
unfoldable pub line_taken : List ℕ → Room → ℕ → ℕ → List ℕ
line_taken a room place to =
    let q = port_of a room (link_in a room place) in
    set (set a (room.tops + q) (top_of a room q - 1)) to (get_or a (room.stack + (top_of a room q - 1)) 0)

-- the position so far, or 1 above that of the node where the line ended
unfoldable pub position_met : List ℕ → List ℕ → Layout → Room → ℕ → ℕ → ℕ
position_met b a at room place position = max position (suc (get_or a (at.positions + link_from b (link_in a room place)) 0))

-- ---- the lines of the links from place `first` on, into the words from `list` on

-- the area, and the position, after i of them
unfoldable pub taken_after : List ℕ → Room → ℕ → ℕ → ℕ → List ℕ
taken_after a room first list zero = a
taken_after a room first list (suc i) = line_taken (taken_after a room first list i) room (first + i) (list + i)

unfoldable pub position_after : List ℕ → List ℕ → Layout → Room → ℕ → ℕ → ℕ → ℕ
position_after b a at room first list zero = 0
position_after b a at room first list (suc i) =
    position_met b (taken_after a room first list i) at room (first + i) (position_after b a at room first list i)

-- each step finds what it asks
abbrev pub TakingLines : List ℕ → List ℕ → Layout → Room → ℕ → ℕ → ℕ → Type 0
TakingLines b a at room first list incoming =
    (i : ℕ) → i < incoming → TakingLine b (taken_after a room first list i) at room (first + i) (list + i)

-- ---- the line at the word `here` goes to the link at a place by output port

abbrev pub link_out : List ℕ → Room → ℕ → ℕ
link_out a room place = get_or a (room.out_sorted + place) 0

pub record PushingLine (a : List ℕ) (room : Room) (place here : ℕ) : Type 0 where
  pub place-inside : room.out_sorted + place < length a
  pub link-inside : room.ports + link_out a room place < length a
  pub pushing : Pushing a room (port_of a room (link_out a room place))
  pub here-inside : here < length a

unfoldable pub line_pushed : List ℕ → Room → ℕ → ℕ → List ℕ
line_pushed a room place here = pushed a room (port_of a room (link_out a room place)) (get_or a here 0)

-- the area after i lines from `list` on are pushed for the links from place `first` on
unfoldable pub pushed_after : List ℕ → Room → ℕ → ℕ → ℕ → List ℕ
pushed_after a room first list zero = a
pushed_after a room first list (suc i) = line_pushed (pushed_after a room first list i) room (first + i) (list + i)

abbrev pub PushingLines : List ℕ → Room → ℕ → ℕ → ℕ → Type 0
PushingLines a room first list outgoing =
    (i : ℕ) → i < outgoing → PushingLine (pushed_after a room first list i) room (first + i) (list + i)
