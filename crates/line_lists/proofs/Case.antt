-- Map A of document 01: order 0 1 2 3, and from the nodes' lists its "lines 0: 0 1 3 and 1: 0 2 3".
-- Rests on the definitions alone.
use mathlib.Core.Path.{◌≡◌, refl}
use mathlib.Core.List.{List, [], ◌∷◌}
use Prim.Native.Nat.{ℕ}
use Rattle.line_lists.specs.Columns.{row_in, columns, columns_in}

-- the order, the node starts and the lines of the nodes, one after the other
abbrev area_a : List ℕ
area_a = 0 ∷ 1 ∷ 2 ∷ 3 ∷ 0 ∷ 2 ∷ 3 ∷ 4 ∷ 6 ∷ 0 ∷ 1 ∷ 0 ∷ 1 ∷ 0 ∷ 1 ∷ []

pub map_A : columns_in area_a 4 2 0 4 9 ≡ (0 ∷ 1 ∷ 3 ∷ []) ∷ (0 ∷ 2 ∷ 3 ∷ []) ∷ []
unfolding columns_in columns row_in
map_A = refl
