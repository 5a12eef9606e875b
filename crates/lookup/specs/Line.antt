-- A line as it is handed on: a part of the area with its nodes, beside the positions of all nodes.
-- Rests on lists' Rising.
use Rattle.std.specs.Prelude.{ℕ, ◌<◌, List, map, length, slice_index, slice_index_or}
use Rattle.lists.specs.Lists.{Rising}

-- the positions along a line
unfoldable pub positions_on : List ℕ → List ℕ → List ℕ
positions_on nodes positions = map (λ v. slice_index positions v) nodes

-- "Positions strictly rise along a line", and each of its nodes has one
pub record Line (nodes positions : List ℕ) : Type 0 where
  pub known : (i : ℕ) → i < length nodes → slice_index nodes i < length positions
  pub rises : Rising (positions_on nodes positions)

-- two indices on a line, with a position strictly between theirs
pub record Bracketed (nodes positions : List ℕ) (p low high : ℕ) : Type 0 where
  pub apart : low < high
  pub inside : high < length nodes
  pub above : slice_index_or (positions_on nodes positions) low 0 < p
  pub under : p < slice_index (positions_on nodes positions) high
