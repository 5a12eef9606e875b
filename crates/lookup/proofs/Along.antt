-- The positions along a line: one for each node, and the node's own.
-- Rests on nothing but their definition.
use Rattle.std.proofs.Common.{◌≡◌, ℕ, zero, suc, ◌<◌, List, [], ◌∷◌, map, length, get_or, refl, arith}
use lib.ListN.{length-map}
use Rattle.lookup.specs.Line.{positions_on}

pub get_or-map_in : (g : ℕ → ℕ) (xs : List ℕ) (i : ℕ) → i < length xs → get_or (map g xs) i 0 ≡ g (get_or xs i 0)
get_or-map_in g [] i h = absurd (omega arith)
get_or-map_in g (x ∷ xs) zero h = refl
get_or-map_in g (x ∷ xs) (suc i) h = get_or-map_in g xs i (omega arith)

module _ (nodes positions : List ℕ) where
  pub length-along : length (positions_on nodes positions) ≡ length nodes
  unfolding positions_on
  length-along = length-map nodes (λ v. get_or positions v 0)

  pub along-is : (i : ℕ) → i < length nodes → get_or (positions_on nodes positions) i 0 ≡ get_or positions (get_or nodes i 0) 0
  unfolding positions_on
  along-is = get_or-map_in (λ v. get_or positions v 0) nodes
