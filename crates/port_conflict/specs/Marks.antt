-- What stands in the part of the area that the check of two lists of ports writes to: the nodes' first ports, a mark for each listed input,
-- and a mark for each listed output whose first link is still to come.
-- Rests on FirstLinks, Room, paper's Refusals and tables' Usable.
use Rattle.std.specs.Prelude.{ℕ, ◌+◌, ◌<◌, Bool, cond, List, [], ◌∷◌, ◌≡◌, eqb, leb, ltb, get_or, set}
use Rattle.lists.specs.Lists.{upto, any, member}
use Rattle.paper.specs.Map.{first_port, source_port, target_port}
use Rattle.paper.specs.Refusals.{Ruling, passed, decide, refuse, earliest}
use Rattle.tables.specs.declared.Layout.{Layout}
use Rattle.tables.specs.Usable.{Usable, Scratched}
use Rattle.tables.specs.Within.{Within}
use Rattle.port_conflict.specs.declared.room.PortRoom.{PortRoom}
use Rattle.port_conflict.specs.FirstLinks.{joined, meets}
use Rattle.port_conflict.specs.Room.{Fits}

-- port q's mark is set
unfoldable pub marked : List ℕ → ℕ → ℕ → Bool
marked a marks q = eqb (get_or a (marks + q) 0) 1

-- one port, marked if there is such a port
pub record PortMarked (a m : List ℕ) (marks p port : ℕ) (known : Bool) : Type 0 where
  pub says : known ≡ ltb port p
  pub left : m ≡ cond known (set a (marks + port) 1) a

-- 14 on a list, in a map of p ports
abbrev pub unknown_port : ℕ → List ℕ → Ruling
unknown_port p ports = refuse 14 (earliest (leb p) ports)

-- a list of ports: 14 is decided, and where all are known each has its mark, and no other port has one
pub record ListMarked (a m : List ℕ) (marks p : ℕ) (ports : List ℕ) (said : Ruling) : Type 0 where
  pub says : said ≡ unknown_port p ports
  pub kept : Within marks p a m
  pub marks_stand : said ≡ passed → (q : ℕ) → q < p → marked m marks q ≡ member q ports

-- .. and both lists: "inputs before outputs"
pub record ListsMarked (at : Layout) (room : PortRoom) (a m inputs outputs : List ℕ) (said : Ruling) : Type 0 where
  pub says : said ≡ decide (unknown_port at.sizes.ports inputs ∷ unknown_port at.sizes.ports outputs ∷ [])
  pub kept : Scratched at a m
  pub inputs_stand : said ≡ passed → (q : ℕ) → q < at.sizes.ports → marked m room.inputs q ≡ member q inputs
  pub outputs_stand : said ≡ passed → (q : ℕ) → q < at.sizes.ports → marked m room.outputs q ≡ member q outputs

-- the links of a map can be followed: the first ports stand in the room
pub record Laid (b a : List ℕ) (at : Layout) (room : PortRoom) : Type 0 where
  pub usable : Usable b a at
  pub fits : Fits at room
  pub firsts : (v : ℕ) → v < at.sizes.nodes → get_or a (room.firsts + v) 0 ≡ first_port b v

-- one link: whether the marks at its ends meet, and else no output's mark stands at them any more
pub record LinkPassed (b a m : List ℕ) (room : PortRoom) (k : ℕ) (met : Bool) : Type 0 where
  pub says : met ≡ joined (marked a room.inputs) (marked a room.outputs) (source_port b k) (target_port b k)
  pub left : m ≡ cond met a (set (set a (room.outputs + source_port b k) 0) (room.outputs + target_port b k) 0)

-- all links: whether one of them is the first link of a marked output and leads to a marked input
pub record LinksPassed (b a m : List ℕ) (at : Layout) (room : PortRoom) (met : Bool) : Type 0 where
  pub says : met ≡ any (meets b (marked a room.inputs) (marked a room.outputs)) (upto at.sizes.links)
  pub kept : Within room.outputs at.sizes.ports a m
