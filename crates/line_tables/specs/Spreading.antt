-- What spreading out leaves: all that the lines are laid with, every stack empty, and the tables still clear but for the order and the starts.
-- Rests on Spread and Frontier.
use Rattle.std.specs.Prelude.{ℕ, ◌+◌, ◌≤◌, ◌<◌, ◌≡◌, ◌⊎◌, List, length, get_or}
use Rattle.tables.specs.declared.Layout.{Layout}
use Rattle.line_tables.specs.declared.room.Room.{Room}
use Rattle.line_tables.specs.Frontier.{Turned}

-- tables that are still clear: all but the order and the node starts
abbrev pub Clear : List ℕ → Layout → Type 0
Clear a at = (i : ℕ) → (i < at.order) ⊎ ((at.order + at.sizes.nodes ≤ i) × (i < at.begins)) ⊎ (at.lines ≤ i) → i < at.scratch → get_or a i 0 ≡ 0

pub record Spreads (b a m : List ℕ) (at : Layout) (room : Room) : Type 0 where
  pub turned : Turned b m at room 0
  pub clear : Clear m at
  pub long : length m ≡ length a
  -- words past those of the map stand
  pub beyond : (i : ℕ) → at.end ≤ i → get_or m i 0 ≡ get_or a i 0
