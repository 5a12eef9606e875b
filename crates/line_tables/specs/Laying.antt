-- What the lines are laid from: a map that passes 1 to 6, its order in the area, and in the scratch its links by output port.
-- Rests on paper and Layout.
use Rattle.std.specs.Prelude.{ℕ, ◌+◌, ◌≤◌, ◌<◌, ◌≡◌, ◌⊎◌, List, map, get_or, take, drop}
use Rattle.lists.specs.Lists.{upto}
use Rattle.paper.specs.Map.{first_port, source_port}
use Rattle.paper.specs.Order.{order}
use Rattle.paper.specs.Refusals.{passed, rule6}
use Rattle.counting_sort.specs.Sorted.{starts_by, sorted_by}
use Rattle.tables.specs.declared.Layout.{Layout}
use Rattle.line_tables.specs.declared.room.Room.{Room}
use Rattle.line_tables.specs.Layout.{Ready}

pub record Laying (b a : List ℕ) (at : Layout) (room : Room) : Type 0 where
  pub ready : Ready b a at room
  pub cycle : rule6 b ≡ passed
  pub order-stands : take at.sizes.nodes (drop at.order a) ≡ order b
  pub firsts_stand : take (at.sizes.nodes + 1) (drop room.firsts a) ≡ map (first_port b) (upto (at.sizes.nodes + 1))
  pub starts_stand : take (at.sizes.ports + 1) (drop room.tops a) ≡ starts_by (map (source_port b) (upto at.sizes.links)) at.sizes.ports
  pub sorted_stand : take at.sizes.links (drop room.out_sorted a) ≡ sorted_by (map (source_port b) (upto at.sizes.links)) at.sizes.ports
  -- all tables but the order are still 0
  pub clear : (i : ℕ) → (i < at.order) ⊎ (at.order + at.sizes.nodes ≤ i) → i < at.scratch → get_or a i 0 ≡ 0
