-- What the start of the queue asks of the area, and what it leaves.
-- Rests on on_line's Along and on Queue, Fitting and Walks.
use Rattle.std.specs.Prelude.{ℕ, ◌<◌, ◌≡◌, true, List}
use Rattle.lists.specs.Lists.{member}
use Rattle.lists.specs.Found.{at as found}
use Rattle.on_line.specs.Along.{LineAt, positions_along, next_along}
use Rattle.tables.specs.declared.Layout.{Layout}
use Rattle.tables.specs.Usable.{Scratched}
use Rattle.walk.specs.Queue.{Queued}
use Rattle.walk.specs.Fitting.{Queueing}
use Rattle.walk.specs.Walks.{Laid, Started}
use Rattle.walk.specs.declared.starts.Room.{Room}

-- a position stands on a line, and the node after it, if there is one, can join
pub record Starting (a : List ℕ) (at : Layout) (queue line highest joined : ℕ) : Type 0 where
  pub along : LineAt a at line
  pub stands : member highest (positions_along a at line) ≡ true
  pub known : (v : ℕ) → next_along a at line highest ≡ found v → v < at.sizes.nodes
  pub queued : Queued a queue at.sizes.nodes joined

-- the room is laid out, and nobody has joined
pub record LaidOut (b a words : List ℕ) (count : ℕ) (at : Layout) (room : Room) (m : List ℕ) : Type 0 where
  pub laid : Laid b m words count at room
  pub queued : Queued m room.queue at.sizes.nodes 0
  pub kept : Scratched at a m

-- the start nodes have joined
pub record Begun (b a words : List ℕ) (count : ℕ) (at : Layout) (room : Room) (joined : ℕ) (m : List ℕ) : Type 0 where
  pub started : Started b m words count at room joined
  pub kept : Queueing at room a m
