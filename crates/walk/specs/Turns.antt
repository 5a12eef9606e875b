-- A turn of the walk in the area, and what its cases mean.
-- Rests on walk_theory's Marked and on Queue, Lows and Fitting.
use Rattle.std.specs.Prelude.{ℕ, suc, ◌+◌, ◌≤◌, ◌<◌, ◌≡◌, cond, List, get_or, ltb, Option, Some, None}
use Rattle.lists.proofs.Sections.{part}
use Rattle.paper.specs.Map.{out_neighbours}
use Rattle.walk_theory.specs.Marked.{join_all, Marked, going, stopped}
use Rattle.tables.specs.declared.Layout.{Layout}
use Rattle.tables.specs.Usable.{Usable}
use Rattle.neighbours.specs.Linked.{Outgoing}
use Rattle.walk.specs.Queue.{Queued}
use Rattle.walk.specs.Lows.{below_lows}
use Rattle.walk.specs.Fitting.{Fits, Queueing}
use Rattle.walk.specs.declared.starts.Room.{Room}

-- the walk's state after a turn that left m; one that says no has counted its node
abbrev pub turn_said : List ℕ → ℕ → ℕ → Option (ℕ × ℕ) → Marked
turn_said m queue counted (Some (joined, more)) = going (part m queue joined) more
turn_said m queue counted None = stopped (suc counted)

-- visiting node v, by the words of the area: skipped above `top`; else counted; no if it stands below; else its neighbours join
unfoldable pub visit_in : List ℕ → List ℕ → Layout → ℕ → ℕ → ℕ → List ℕ → ℕ → Marked
visit_in b a at lows top v joined counted =
    cond (ltb top (get_or a (at.positions + v) 0))
    (going joined counted)
    (cond (below_lows a at lows v) (stopped (suc counted)) (going (join_all joined (out_neighbours b v)) (suc counted)))

-- turn t can be taken
pub record Turning (b a : List ℕ) (at : Layout) (room : Room) (t joined counted : ℕ) : Type 0 where
  pub usable : Usable b a at
  pub fits : Fits at room
  pub linked : Outgoing b a at.sizes room.links
  pub queued : Queued a room.queue at.sizes.nodes joined
  pub taken : t < joined
  pub few : counted ≤ t

-- where the walk goes on, the queue stands in m, and at most one node more was counted
abbrev pub GoesOn : List ℕ → ℕ → ℕ → ℕ → Option (ℕ × ℕ) → Type 0
GoesOn m queue n counted (Some (joined, more)) = Queued m queue n joined × (more ≤ counted + 1)
GoesOn m queue n counted None = Unit {0}

pub record Turned (b a : List ℕ) (at : Layout) (room : Room) (top t joined counted : ℕ) (r : Option (ℕ × ℕ)) (m : List ℕ) : Type 0 where
  pub said : turn_said m room.queue counted r ≡ visit_in b a at room.lows top (get_or a (room.queue + t) 0) (part a room.queue joined) counted
  pub on : GoesOn m room.queue at.sizes.nodes counted r
  pub kept : Queueing at room a m
