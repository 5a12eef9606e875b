-- The scratch as the order check lays it out: the links by output port, then a mark for each listed place, a mark for each place in the
-- list's future, and each node's place. Rests on neighbours' Linked, and tables' Usable and Within.
use Rattle.std.specs.Prelude.{ℕ, ◌+◌, ◌-◌, ◌≤◌, ◌<◌, ◌≡◌, List, length, get_or}
use Rattle.neighbours.specs.Linked.{Outgoing}
use Rattle.tables.specs.declared.Layout.{Layout}
use Rattle.tables.specs.Placed.{scratch_size}
use Rattle.tables.specs.Usable.{Usable, Scratched}
use Rattle.tables.specs.Within.{Within}
use Rattle.topo_checker.specs.declared.layout.OrderRoom.{OrderRoom}

-- each part stands behind the one before it, and all are in the scratch
pub record Fits (at : Layout) (room : OrderRoom) : Type 0 where
  pub before-links : at.scratch ≤ room.links.firsts
  pub links : room.links.firsts ≤ room.links.end
  pub after-links : room.links.end ≤ room.listed
  pub after-listed : room.listed + at.sizes.nodes ≤ room.future
  pub after-future : room.future + at.sizes.nodes ≤ room.places
  pub after_places : room.places + at.sizes.nodes ≤ at.scratch + scratch_size at.sizes

-- how many words the marks take
abbrev pub marks_size : OrderRoom → ℕ
marks_size room = room.places - room.listed

-- the order holds each of the nodes once, and a word for each fits at `places`
pub record Ordered (a : List ℕ) (at : Layout) (places : ℕ) : Type 0 where
  pub known : (i : ℕ) → i < at.sizes.nodes → get_or a (at.order + i) 0 < at.sizes.nodes
  pub apart : (i j : ℕ) → i < at.sizes.nodes → j < at.sizes.nodes → get_or a (at.order + i) 0 ≡ get_or a (at.order + j) 0 → i ≡ j
  pub after : at.order + at.sizes.nodes ≤ places
  pub room : places + at.sizes.nodes ≤ length a
  pub small : at.sizes.nodes ≤ 512

-- the place of the node at place i is i
pub record PlacesKept (a : List ℕ) (at : Layout) (places : ℕ) (m : List ℕ) : Type 0 where
  pub kept : Within places at.sizes.nodes a m
  pub placed : (i : ℕ) → i < at.sizes.nodes → get_or m (places + get_or a (at.order + i) 0) 0 ≡ i

-- the nodes' places, behind the marks, are the order's
pub record PlacesStand (a : List ℕ) (at : Layout) (room : OrderRoom) : Type 0 where
  pub fits : Fits at room
  pub after-order : at.order + at.sizes.nodes ≤ at.scratch
  pub inside : at.scratch + scratch_size at.sizes ≤ length a
  pub small : at.sizes.nodes ≤ 512
  pub node-known : (i : ℕ) → i < at.sizes.nodes → get_or a (at.order + i) 0 < at.sizes.nodes
  pub placed : (i : ℕ) → i < at.sizes.nodes → get_or a (room.places + get_or a (at.order + i) 0) 0 ≡ i
  pub place-known : (v : ℕ) → v < at.sizes.nodes → get_or a (room.places + v) 0 < at.sizes.nodes
  pub holds : (v : ℕ) → v < at.sizes.nodes → get_or a (at.order + get_or a (room.places + v) 0) 0 ≡ v

-- all that the check reads
pub record Laid (b a : List ℕ) (at : Layout) (room : OrderRoom) : Type 0 where
  pub usable : Usable b a at
  pub linked : Outgoing b a at.sizes room.links
  pub placed : PlacesStand a at room

-- what laying it out leaves: no place is marked
pub record LaidOut (b a : List ℕ) (at : Layout) (room : OrderRoom) (m : List ℕ) : Type 0 where
  pub laid : Laid b m at room
  pub unlisted : (j : ℕ) → j < at.sizes.nodes → get_or m (room.listed + j) 0 ≡ 0
  pub fresh : (j : ℕ) → j < at.sizes.nodes → get_or m (room.future + j) 0 ≡ 0
  pub kept : Scratched at a m
