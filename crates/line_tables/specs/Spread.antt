-- What is read while the lines are laid, and never changed meanwhile: the order, where each node's list starts, and its links.
-- Rests on Layout.
use Rattle.std.specs.Prelude.{ℕ, ◌+◌, ◌≤◌, ◌<◌, ◌≡◌, List, length, get_or}
use Rattle.paper.specs.Map.{first_port, source_port, in_links, out_links}
use Rattle.paper.specs.Order.{order}
use Rattle.paper.specs.Refusals.{passed, rule6}
use Rattle.counting_sort.specs.Sorted.{below}
use Rattle.tables.specs.declared.Layout.{Layout}
use Rattle.line_tables.specs.declared.room.Room.{Room}
use Rattle.line_tables.specs.Layout.{Ready, out_keys, in_keys, start_of, entries}

pub record Spread (b a : List ℕ) (at : Layout) (room : Room) : Type 0 where
  pub ready : Ready b a at room
  pub cycle : rule6 b ≡ passed
  pub node-is : (t : ℕ) → t < at.sizes.nodes → get_or a (at.order + t) 0 ≡ get_or (order b) t 0
  pub list-start : (v : ℕ) → v ≤ at.sizes.nodes → get_or a (at.begins + v) 0 ≡ start_of b v
  pub first-is : (v : ℕ) → v ≤ at.sizes.nodes → get_or a (room.firsts + v) 0 ≡ first_port b v
  pub port-is : (k : ℕ) → k < at.sizes.links → get_or a (room.ports + k) 0 ≡ source_port b k
  pub out-link : (v : ℕ) → v < at.sizes.nodes → (i : ℕ) → i < length (out_links b v)
      → get_or a (room.out_sorted + (below (out_keys b) (first_port b v) + i)) 0 ≡ get_or (out_links b v) i 0
  pub out-start : (v : ℕ) → v ≤ at.sizes.nodes → get_or a (room.outs + v) 0 ≡ below (out_keys b) (first_port b v)
  pub in_start : (q : ℕ) → q ≤ at.sizes.ports → get_or a (room.in_starts + q) 0 ≡ below (in_keys b) q
  pub in_link : (v : ℕ) → v < at.sizes.nodes → (i : ℕ) → i < length (in_links b v)
      → get_or a (room.in_sorted + (below (in_keys b) (first_port b v) + i)) 0 ≡ get_or (in_links b v) i 0

-- a word that laying the lines leaves as it is; `used` words of the lists are in use
pub data Kept (used : ℕ) (at : Layout) (room : Room) (i : ℕ) : Type 0 where
  in_front : i < at.positions → Kept used at room i
  in_starts : at.begins ≤ i → i < at.lines → Kept used at room i
  in_tables : at.lines + used ≤ i → i < room.tops → Kept used at room i
  in_links_lem : room.tops + at.sizes.ports ≤ i → i < room.stack → Kept used at room i
  behind : room.stack + at.sizes.links ≤ i → Kept used at room i

-- one that it changes
pub data Changed (used : ℕ) (at : Layout) (room : Room) (j : ℕ) : Type 0 where
  position : at.positions ≤ j → j < at.begins → Changed used at room j
  list : at.lines ≤ j → j < at.lines + used → Changed used at room j
  top : room.tops ≤ j → j < room.tops + at.sizes.ports → Changed used at room j
  stack : room.stack ≤ j → j < room.stack + at.sizes.links → Changed used at room j

-- an area that came of another by such changes
pub record Over (b : List ℕ) (at : Layout) (room : Room) (a m : List ℕ) : Type 0 where
  pub long : length m ≡ length a
  pub same : (i : ℕ) → Kept (entries b) at room i → get_or m i 0 ≡ get_or a i 0
