-- Where a part of a text ends: at the next byte that parts it, or at the text's end.
-- Rests on paper's Text.
use Rattle.std.specs.Prelude.{ℕ, suc, ◌+◌, cond, List, [], ◌∷◌, length, drop, eqb, leb}
use Rattle.paper.specs.Text.{split}

-- how many bytes stand before the first mark
unfoldable pub part_length : ℕ → List ℕ → ℕ
part_length mark [] = 0
part_length mark (x ∷ xs) = cond (eqb x mark) 0 (suc (part_length mark xs))

-- .. from a place on
unfoldable pub part_end : ℕ → List ℕ → ℕ → ℕ
part_end mark text at = at + part_length mark (drop at text)

-- the parts that are left from a place on; past the text's end there is none
unfoldable pub parts_from : ℕ → List ℕ → ℕ → List (List ℕ)
parts_from mark text at = cond (leb at (length text)) (split mark (drop at text)) []
