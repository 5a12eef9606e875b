-- A place passed neighbour by neighbour, as its loop in the code runs: the same marks in the same order, and no at the first that is listed.
-- Rests on Passed and Places.
use Rattle.std.specs.Prelude.{ℕ, zero, suc, Bool, cond, List, [], ◌∷◌, ◌++◌, map, get_or}
use Rattle.lists.specs.Lists.{upto, one, member}
use Rattle.paper.specs.Map.{out_neighbours}
use Rattle.paper.specs.OrderCheck.{in_range}
use Rattle.convexity_theory.specs.places.Passed.{Passed, going, fed_back}
use Rattle.convexity_theory.specs.places.Places.{node_at, place_of}

-- the place of neighbour k of place i
unfoldable pub neighbour_place : List ℕ → List ℕ → ℕ → ℕ → ℕ
neighbour_place b a i k = place_of b a (get_or (out_neighbours b (node_at b a i)) k 0)

-- a neighbour in the range: outside the list it is marked; in the list it must not be fed from outside
unfoldable pub pass_neighbour : List ℕ → Bool → ℕ → Passed → Passed
pass_neighbour places from_listed j fed_back = fed_back
pass_neighbour places from_listed j (going marked) =
    cond (in_range places j)
    (cond (member j places) (cond from_listed (going marked) fed_back) (going (marked ++ (j ∷ []))))
    (going marked)

-- after k neighbours of place i, which is listed or marked
unfoldable pub passed_neighbours : List ℕ → List ℕ → List ℕ → ℕ → List ℕ → ℕ → Passed
passed_neighbours b a places i marked zero = going marked
passed_neighbours b a places i marked (suc k) =
    pass_neighbour places (member i places) (neighbour_place b a i k) (passed_neighbours b a places i marked k)

-- the marks as a word for each of n places: 1 where it is marked
abbrev pub mark_words : List ℕ → ℕ → List ℕ
mark_words marked n = map (λ j. one (member j marked)) (upto n)
