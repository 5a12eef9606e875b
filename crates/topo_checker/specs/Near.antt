-- The places that links lead to, read from the area, and what is done with those in the range.
-- Rests on neighbours' Linked and tables' Within.
use Rattle.std.specs.Prelude.{ℕ, ◌+◌, ◌<◌, ◌≡◌, Bool, ◌&&◌, not, cond, List, get_or, eqb, leb}
use Rattle.lists.specs.Lists.{upto, any}
use Rattle.neighbours.specs.Linked.{out_target}
use Rattle.tables.specs.declared.Layout.{Layout}
use Rattle.tables.specs.Within.{Within}
use Rattle.topo_checker.specs.declared.layout.OrderRoom.{OrderRoom}

-- the place of the node that the x-th of the links by output port leads to
unfoldable pub place_reached : List ℕ → List ℕ → OrderRoom → ℕ → ℕ
place_reached b a room x = get_or a (room.places + out_target b x) 0

-- "node_range": from the first place of the list to its last
abbrev pub ranged : ℕ → ℕ → ℕ → Bool
ranged first last j = leb first j && leb j last

-- place j is in the range and listed
unfoldable pub is_listed : List ℕ → ℕ → ℕ → ℕ → ℕ → Bool
is_listed a marks first last j = ranged first last j && not (eqb (get_or a (marks + j) 0) 0)

-- .. and not listed
unfoldable pub is_other : List ℕ → ℕ → ℕ → ℕ → ℕ → Bool
is_other a marks first last j = ranged first last j && eqb (get_or a (marks + j) 0) 0

-- one of the x links from `start` on leads to place j, which is in the range and not listed
unfoldable pub leads_out : List ℕ → List ℕ → OrderRoom → ℕ → ℕ → ℕ → ℕ → ℕ → Bool
leads_out b a room start first last x j =
    any (λ y. eqb j (place_reached b a room (start + y)) && is_other a room.listed first last (place_reached b a room (start + y))) (upto x)

-- the places that these links lead to, as far as they are in the range and not listed, are in the future
pub record OthersMarked (b a : List ℕ) (at : Layout) (room : OrderRoom) (start x first last : ℕ) (m : List ℕ) : Type 0 where
  pub kept : Within room.future at.sizes.nodes a m
  pub marked : (j : ℕ) → j < at.sizes.nodes
      → get_or m (room.future + j) 0 ≡ cond (leads_out b a room start first last x j) 1 (get_or a (room.future + j) 0)
