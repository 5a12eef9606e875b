-- The walk's words in the scratch: the queue with its marks, behind them a word for each line, and behind those the links.
-- Rests on tables' Usable and neighbours' Linked.
use Rattle.std.specs.Prelude.{ℕ, ◌+◌, ◌≤◌, List}
use Rattle.tables.specs.declared.Layout.{Layout}
use Rattle.tables.specs.Placed.{scratch_size}
use Rattle.tables.specs.Within.{Within}
use Rattle.stepmap.specs.declared.read.Sizes.{Sizes}
use Rattle.neighbours.specs.declared.Listing.{Listing}
use Rattle.neighbours.specs.Linked.{Outgoing}
use Rattle.walk.specs.declared.starts.Room.{Room}

-- each stands behind the one before it, and all of them in the scratch
pub record Fits (at : Layout) (room : Room) : Type 0 where
  pub before-queue : at.scratch ≤ room.queue
  pub after-queue : room.queue + (at.sizes.nodes + at.sizes.nodes) ≤ room.lows
  pub after-lows : room.lows + (at.sizes.links + at.sizes.nodes) ≤ room.links.firsts
  pub inside : room.links.firsts ≤ at.scratch + scratch_size at.sizes

-- m came of a by writing to the queue and its marks alone
abbrev pub Queueing : Layout → Room → List ℕ → List ℕ → Type 0
Queueing at room a m = Within room.queue (at.sizes.nodes + at.sizes.nodes) a m

-- the links stand behind a queue and its marks
pub record Leading (b a : List ℕ) (s : Sizes) (queue : ℕ) (links : Listing) : Type 0 where
  pub linked : Outgoing b a s links
  pub apart : queue + (s.nodes + s.nodes) ≤ links.firsts
