-- The area's sections as places: each stands behind the one before it, where 01's list of sections puts it.
-- Rests on paper's Area and stepmap's ReadWell.
use Rattle.std.specs.Prelude.{ℕ, ◌+◌, ◌*◌, ◌≤◌, ◌≡◌, List}
use Rattle.paper.specs.Area.{Section, line_count, order, positions, node_starts, lines_of_nodes, line_starts, nodes_of_lines, scratch, start, W}
use Rattle.stepmap.specs.declared.read.Sizes.{Sizes}
use Rattle.tables.specs.declared.Layout.{Layout}

-- sizes within the limits
pub record Few (s : Sizes) : Type 0 where
  pub nodes : s.nodes ≤ 512
  pub links : s.links ≤ 2048
  pub ports : s.ports ≤ 4096

-- how many words the lists of nodes or of lines take at most, and the scratch
abbrev pub entries_size : Sizes → ℕ
entries_size s = 2 * s.links + s.nodes

abbrev pub scratch_size : Sizes → ℕ
scratch_size s = 4 * s.nodes + 4 * s.links + 2 * s.ports + 4

-- each place is the one before it and the size of what stands there
pub record LaidOut (s : Sizes) (at : Layout) : Type 0 where
  pub sizes : at.sizes ≡ s
  pub order : at.order ≡ 1
  pub positions : at.positions ≡ at.order + s.nodes
  pub begins : at.begins ≡ at.positions + s.nodes
  pub lines : at.lines ≡ at.begins + (s.nodes + 1)
  pub starts : at.starts ≡ at.lines + entries_size s
  pub along : at.along ≡ at.starts + (s.links + s.nodes + 1)
  pub scratch : at.scratch ≡ at.along + entries_size s
  pub end : at.end ≡ at.scratch + scratch_size s

-- the place of a section
abbrev pub place : Layout → Section → ℕ
place at line_count = 0
place at order = at.order
place at positions = at.positions
place at node_starts = at.begins
place at lines_of_nodes = at.lines
place at line_starts = at.starts
place at nodes_of_lines = at.along
place at scratch = at.scratch

-- the places are 01's, each section ends where the next one starts or before, and the last one at W
pub record Placed (b : List ℕ) (at : Layout) : Type 0 where
  pub before-order : 1 ≤ at.order
  pub after-order : at.order + at.sizes.nodes ≤ at.positions
  pub after-positions : at.positions + at.sizes.nodes ≤ at.begins
  pub after-begins : at.begins + (at.sizes.nodes + 1) ≤ at.lines
  pub after-lines : at.lines + entries_size at.sizes ≤ at.starts
  pub after-starts : at.starts + (at.sizes.links + at.sizes.nodes + 1) ≤ at.along
  pub after-along : at.along + entries_size at.sizes ≤ at.scratch
  pub after-scratch : at.scratch + scratch_size at.sizes ≤ at.end
  pub whole : W b ≡ at.end
  pub stands : (s : Section) → start b s ≡ place at s
