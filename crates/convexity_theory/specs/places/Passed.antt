-- The order check as the code runs it: place by place in the order, with a mark on each place outside the list that is in its future.
-- Rests on paper's OrderCheck.
use Rattle.std.specs.Prelude.{ℕ, zero, suc, not, cond, List, [], ◌++◌, length, leb}
use Rattle.lists.specs.Lists.{any, keep, member, greatest}
use Rattle.paper.specs.Intervals.{Reply, Yes, No}
use Rattle.paper.specs.OrderCheck.{places_of, neighbour_places}

-- the places marked; or that the answer is no
pub data Passed : Type 0 where
  going : (marked : List ℕ) → Passed
  fed_back : Passed

-- a listed place marks its neighbours outside the list; a marked one must not feed the list, and marks its neighbours
unfoldable pub pass_place : List ℕ → List ℕ → List ℕ → ℕ → Passed → Passed
pass_place b a places i fed_back = fed_back
pass_place b a places i (going marked) =
    let neighbours = neighbour_places b a places i in
    cond (member i places)
    (going (marked ++ keep (λ j. not (member j places)) neighbours))
    (cond (member i marked)
    (cond (any (λ j. member j places) neighbours) fed_back (going (marked ++ neighbours)))
    (going marked))

-- after all places below i
unfoldable pub passed_below : List ℕ → List ℕ → List ℕ → ℕ → Passed
passed_below b a places zero = going []
passed_below b a places (suc i) = pass_place b a places i (passed_below b a places i)

unfoldable pub reply_of : Passed → Reply
reply_of (going marked) = Yes
reply_of fed_back = No

unfoldable pub passing : List ℕ → List ℕ → List ℕ → Reply
passing b a list = let places = places_of b a list in cond (leb (length places) 1) Yes (reply_of (passed_below b a places (suc (greatest places))))
