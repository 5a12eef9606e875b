-- The smallest number of a list, or that it has none.
-- Rests on lists.
use Rattle.std.specs.Prelude.{ℕ, List, [], ◌∷◌}
use Rattle.lists.specs.Lists.{least}
use Rattle.lists.specs.Found.{Found, absent, at}

-- the smallest number, if there is one
abbrev pub smallest : List ℕ → Found
smallest [] = absent
smallest (x ∷ xs) = at (least (x ∷ xs))
