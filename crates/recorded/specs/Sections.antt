-- Kinds 2 to 7 of the file: a section that preparing wrote. A line agrees only if its list is the words of the section that are in use.
-- Rests on paper's Area, tables' Placed and Parts.
use Rattle.std.specs.Prelude.{ℕ, ◌+◌, ◌-◌, ◌≡◌, true, List, [], ◌∷◌, get_or, take, drop}
use Rattle.lists.specs.Lists.{same}
use Rattle.paper.specs.Area.{Section, order, positions, node_starts, lines_of_nodes, line_starts, nodes_of_lines, start}
use Rattle.paper.specs.Map.{N, L}
use Rattle.tables.specs.Placed.{place}
use Rattle.tables.specs.declared.Layout.{Layout}
use Rattle.recorded.specs.declared.line_parts.Part.{Part}

-- the place of a kind's section and how many of its words are in use: order, positions, node starts, lines of nodes, line starts, nodes of lines.
-- Of the two lists they are L + K, of the line starts K + 1
unfoldable pub used_at : (Section → ℕ) → ℕ → ℕ → ℕ → ℕ → ℕ × ℕ
used_at begin n l k kind =
    get_or
    ((0, 0) ∷ (0, 0) ∷ (begin order, n) ∷ (begin positions, n) ∷ (begin node_starts, n + 1) ∷ (begin lines_of_nodes, l + k)
    ∷ (begin line_starts, k + 1)
    ∷ (begin nodes_of_lines, l + k)
    ∷ [])
    kind
    (0, 0)

-- .. by the places of an area of k lines
abbrev pub used_in : Layout → ℕ → ℕ → ℕ × ℕ
used_in at = used_at (place at) at.sizes.nodes at.sizes.links

-- .. as a part of the area
abbrev pub UsedAt : Part → ℕ × ℕ → Type 0
UsedAt part used = (part.from ≡ used.0) × (part.to ≡ used.0 + used.1)

-- the line's list is a part of the area
abbrev pub Between : ℕ → ℕ → List ℕ → List ℕ → Type 0
Between from to line a = same (drop 1 line) ((to - from) ∷ take (to - from) (drop from a)) ≡ true

unfoldable pub SameSection : ℕ → List ℕ → List ℕ → List ℕ → Type 0
SameSection kind line b a = let used = used_at (start b) (N b) (L b) (get_or a 0 0) kind in Between used.0 (used.0 + used.1) line a
