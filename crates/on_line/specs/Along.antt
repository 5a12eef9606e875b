-- A line as it stands in the area: its nodes between two line starts, and the positions of all nodes.
-- Rests on lookup's Line and tables' Usable.
use Rattle.std.specs.Prelude.{ℕ, ◌+◌, ◌≤◌, List, length, get_or, ltb}
use Rattle.lists.specs.Lists.{keep}
use Rattle.lists.specs.Found.{Found, front}
use Rattle.lists.proofs.Sections.{part}
use Rattle.lookup.specs.Line.{Line, positions_on}
use Rattle.tables.specs.declared.Layout.{Layout}
use Rattle.tables.specs.Usable.{Spanned, entries_of}

-- the positions of all nodes
abbrev pub positions_in : List ℕ → Layout → List ℕ
positions_in a at = part a at.positions at.sizes.nodes

-- the nodes of line x, and the positions along it
abbrev pub nodes_along : List ℕ → Layout → ℕ → List ℕ
nodes_along a at x = entries_of a at.starts at.along x

unfoldable pub positions_along : List ℕ → Layout → ℕ → List ℕ
positions_along a at x = positions_on (nodes_along a at x) (positions_in a at)

-- the node after a position
unfoldable pub next_along : List ℕ → Layout → ℕ → ℕ → Found
next_along a at x p = front (keep (λ v. ltb p (get_or (positions_in a at) v 0)) (nodes_along a at x))

-- line x stands in the area, its nodes are known, and its positions rise
pub record LineAt (a : List ℕ) (at : Layout) (x : ℕ) : Type 0 where
  pub span : Spanned a at.starts at.along x
  pub room : at.positions + at.sizes.nodes ≤ length a
  pub line : Line (nodes_along a at x) (positions_in a at)
