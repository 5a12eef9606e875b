-- What is known of a map and its area while the lines are laid, and what is laid, apart from any area.
-- Rests on paper, stepmap's ReadWell, tables' Placed and Room.
use Rattle.std.specs.Prelude.{ℕ, ◌+◌, ◌≤◌, ◌≡◌, List, map, length, get_or}
use Rattle.lists.specs.Lists.{upto}
use Rattle.paper.specs.Map.{L, source_port, target_port}
use Rattle.paper.specs.Lines.{tables}
use Rattle.paper.specs.Area.{starts}
use Rattle.paper.specs.Refusals.{passed, rule45}
use Rattle.stepmap.specs.Formed.{ReadWell}
use Rattle.tables.specs.declared.Layout.{Layout}
use Rattle.tables.specs.Placed.{Placed}
use Rattle.line_tables.specs.declared.room.Room.{Room}
use Rattle.line_tables.specs.Room.{Fits}

-- a map that passes 1, 2, 4 and 5, an area that passes 3, where its sections stand, and the parts of its scratch
pub record Ready (b a : List ℕ) (at : Layout) (room : Room) : Type 0 where
  pub read : ReadWell b at.sizes.nodes at.sizes.links at.sizes.ports
  pub links : rule45 b ≡ passed
  pub placed : Placed b at
  pub fits : Fits at room
  pub long : at.end ≤ length a

-- the ports that the links start at, and those that they end at
abbrev pub out_keys : List ℕ → List ℕ
out_keys b = map (source_port b) (upto (L b))

abbrev pub in_keys : List ℕ → List ℕ
in_keys b = map (target_port b) (upto (L b))

-- where a node's list of lines starts in its section
abbrev pub start_of : List ℕ → ℕ → ℕ
start_of b v = get_or (starts 0 (tables b).lines_of_nodes) v 0

-- "Entries in use: L+K in each list."
abbrev pub entries : List ℕ → ℕ
entries b = L b + (tables b).count
