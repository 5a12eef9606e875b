-- What passing a place does, case by case: a listed place, a marked one that feeds the list or does not, and any other.
-- Rests on the definitions.
use Prim.Native.Nat.{ℕ}
use mathlib.Core.Path.{◌≡◌}
use mathlib.Core.Bool.{true, false, not}
use mathlib.Core.List.{List, ◌++◌}
use Rattle.lists.specs.Lists.{any, keep, member}
use Rattle.paper.specs.OrderCheck.{neighbour_places}
use Rattle.convexity_theory.specs.places.Passed.{going, fed_back, pass_place}

module _ (b a places : List ℕ) (i : ℕ) where
  -- the neighbours that a listed place marks
  abbrev pub outsiders : List ℕ
  outsiders = keep (λ j. not (member j places)) (neighbour_places b a places i)

  pub pass_listed : (marked : List ℕ) → member i places ≡ true → pass_place b a places i (going marked) ≡ going (marked ++ outsiders)
  unfolding pass_place
  pass_listed marked e = rw e

  pub pass_feeding : (marked : List ℕ) → member i places ≡ false → member i marked ≡ true → any (λ j. member j places) (neighbour_places b a places i) ≡ true
      → pass_place b a places i (going marked) ≡ fed_back
  unfolding pass_place
  pass_feeding marked out on feeds = rw (out, on, feeds)

  pub pass_marked : (marked : List ℕ) → member i places ≡ false → member i marked ≡ true → any (λ j. member j places) (neighbour_places b a places i) ≡ false
      → pass_place b a places i (going marked) ≡ going (marked ++ neighbour_places b a places i)
  unfolding pass_place
  pass_marked marked out on feeds = rw (out, on, feeds)

  pub pass_other_lem : (marked : List ℕ) → member i places ≡ false → member i marked ≡ false → pass_place b a places i (going marked) ≡ going marked
  unfolding pass_place
  pass_other_lem marked out off = rw (out, off)
