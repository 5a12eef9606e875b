-- What it means that a rule of 01's table passes, for each rule that a check asks: the map's, the tables', the list's, the ports'.
-- Rests on lists.First (what a search that finds nothing says) and lists.Places.
use Prim.Native.Nat.{ℕ, suc, ◌≤◌, ◌<◌}
use native.Mathlib.Omega.{arith}
use borrow.Author.Tests.{ltb-false, le-ltb, leb-false, lt-leb, eqb-false, ne_eqb, eq-eqb, not-false}
use mathlib.Core.Path.{◌≡◌, refl, sym, ap, ap₂, ◌∙◌}
use mathlib.Core.Logic.Iff
use mathlib.Core.Logic.{◌↔◌}
use mathlib.Core.Bool.{Bool, true, false, true≢false, not, ◌||◌}
use mathlib.Core.List.{List, [], ◌∷◌}
use lib.ListN.{length, get_or, take}
use lib.Seq.{take-length}
use lib.Dec.{T, eqb, leb, ltb}
use Rattle.lists.specs.Lists.{In, Distinct, member, times}
use Rattle.lists.specs.Found.{Found, absent, at, placed, first}
use Rattle.lists.proofs.First.{first_absent, first-none}
use Rattle.lists.proofs.Members.{member_no}
use Rattle.lists.proofs.Places.{times_in, times_in_back, times-place, PlaceBelow, place-times, place-new}
use Rattle.lists.proofs.Tests.{or_false_both}
use Rattle.paper.specs.Map.{N, L, P, well_formed, within_limits, missing, second}
use Rattle.paper.specs.Area.{W}
use Rattle.paper.specs.Accepted.{Accepted, accepted}
use Rattle.paper.specs.Refusals.{
  passed,
  refuse,
  earliest,
  bad_link,
  refuse_link,
  rule1,
  rule2,
  rule3,
  rule45,
  rule7,
  rule8,
  rule9,
  rule10,
  rule11,
  rule14,
}
use Rattle.paper.specs.Promise.{KnownSteps, KnownPorts}
use Rattle.paper.proofs.Accepted.{accepted-says}
use Rattle.accepted_theory.proofs.Every.{every-place}
use Rattle.accepted_theory.proofs.Refusals.{not_passed, tables-passed}
use Rattle.accepted_theory.proofs.recorded.Among.{distinct-few}
use Rattle.convexity_theory.proofs.Memberships.{in_every}

-- ---- a test and a search

test_passes : (n place : ℕ) (t : Bool) → (refuse n (placed t place) ≡ passed) ↔ (t ≡ false)
unfolding refuse
test_passes n place true = (λ e. absurd (not_passed e), λ e. absurd (true≢false e))
test_passes n place false = (λ e. refl, λ e. refl)

search_passes : (n : ℕ) (f : ℕ → Bool) (m : ℕ) → (refuse n (first f m) ≡ passed) ↔ ((k : ℕ) → k < m → f k ≡ false)
unfolding refuse
search_passes n f m = (λ e. first_absent f m (nothing (first f m) e), λ h. ap (refuse n) (first-none f m h))
  where
    nothing : (g : Found) → refuse n g ≡ passed → g ≡ absent
    nothing absent e = refl
    nothing (at p) e = absurd (not_passed e)

-- no entry at or above a bound
known_passes : (n bound : ℕ) (list : List ℕ) → (refuse n (earliest (leb bound) list) ≡ passed) ↔ ((v : ℕ) → In v list → v < bound)
unfolding earliest
known_passes n bound list =
    Iff.trans (search_passes n (λ i. leb bound (get_or list i 0)) (length list)) (
      λ low v i.
          in_every (λ u. u < bound) list (every-place (λ u. u < bound) 0 list (λ j h. leb-false bound (get_or list j 0) (low j h))) i,
      λ known j h.
          lt-leb bound (get_or list j 0) (known (get_or list j 0) (times_in_back (get_or list j 0) list (times-place list j h))),
    )

-- ---- the map and the area

-- a test that a rule wants passed
required : (n : ℕ) (t : Bool) → (refuse n (placed (not t) 0) ≡ passed) ↔ (t ≡ true)
required n t = Iff.trans (test_passes n 0 (not t)) (not-false t, ap not)

pub rule1_passes : (b : List ℕ) → (rule1 b ≡ passed) ↔ (well_formed b ≡ true)
unfolding rule1
rule1_passes b = required 1 (well_formed b)

pub rule2_passes : (b : List ℕ) → (rule2 b ≡ passed) ↔ (within_limits b ≡ true)
unfolding rule2
rule2_passes b = required 2 (within_limits b)

pub rule3_passes : (b a : List ℕ) → (rule3 b a ≡ passed) ↔ (W b ≤ length a)
unfolding rule3
rule3_passes b a = Iff.trans (test_passes 3 0 (ltb (length a) (W b))) (ltb-false (length a) (W b), le-ltb (length a) (W b))

pub rule45_passes : (b : List ℕ) → (rule45 b ≡ passed) ↔ ((k : ℕ) → k < L b → (missing b k ≡ false) × (second b k ≡ false))
unfolding rule45 bad_link refuse_link
rule45_passes b = (
  λ e k h. or_false_both (missing b k) (second b k) (first_absent bad (L b) (nowhere (first bad (L b)) e) k h),
  λ good. ap (refuse_link b) (first-none bad (L b) (λ k h. ap₂ ◌||◌ (good k h).0 (good k h).1)),
)
  where
    bad : ℕ → Bool
    bad k = missing b k || second b k

    nowhere : (f : Found) → refuse_link b f ≡ passed → f ≡ absent
    nowhere absent e = refl
    nowhere (at k) e = absurd (not_passed e)

pub rule7_passes : (b a : List ℕ) → (rule7 b a ≡ passed) ↔ Accepted b a
unfolding rule7
rule7_passes b a = (tables-passed b a, λ acc. (required 7 (accepted b a)).1 (is_true (accepted b a) ((accepted-says b a).back acc)))
  where
    is_true : (t : Bool) → T t → t ≡ true
    is_true true e = refl
    is_true false e = absurd e

-- ---- the list and the ports

pub rule8_passes : (n : ℕ) → (rule8 n ≡ passed) ↔ (0 < n)
unfolding rule8
rule8_passes n =
    Iff.trans (test_passes 8 0 (eqb n 0)) (λ e. some (eqb-false n 0 e), λ h. ne_eqb n 0 (λ e. omega arith))
  where
    some : (n ≡ 0 → ⊥) → 0 < n
    some ne = omega arith

pub rule9_passes : (b list : List ℕ) → (rule9 b list ≡ passed) ↔ KnownSteps b list
unfolding rule9
rule9_passes b list = known_passes 9 (N b) list

pub rule14_passes : (b ports : List ℕ) → (rule14 b ports ≡ passed) ↔ KnownPorts b ports
unfolding rule14
rule14_passes b ports = known_passes 14 (P b) ports

-- each entry new where it stands
new-distinct : (list : List ℕ) → ((i : ℕ) → i < length list → member (get_or list i 0) (take i list) ≡ false) → Distinct list
new-distinct [] new = tt
new-distinct (x ∷ xs) new = (
  λ i. again (place-times (length xs) x xs (omega (arith, times_in x xs i, ap (times x) (take-length xs)))),
  new-distinct xs (λ i h. (later i h).1),
)
  where
    later : (i : ℕ) → i < length xs → (eqb (get_or xs i 0) x ≡ false) × (member (get_or xs i 0) (take i xs) ≡ false)
    later i h = or_false_both (eqb (get_or xs i 0) x) (member (get_or xs i 0) (take i xs)) (new (suc i) (omega arith))

    again : PlaceBelow (length xs) x xs → ⊥
    again p = true≢false (sym (eq-eqb (get_or xs p.place 0) x p.holds) ∙ (later p.place p.inside).0)

pub rule10_passes : (list : List ℕ) → (rule10 list ≡ passed) ↔ Distinct list
unfolding rule10
rule10_passes list =
    Iff.trans (search_passes 10 (λ i. member (get_or list i 0) (take i list)) (length list)) (
      new-distinct list,
      λ once i h. member_no (get_or list i 0) (take i list) (place-new list i h (distinct-few (get_or list i 0) list once)),
    )

-- ---- the room for a result

pub rule11_passes : (room needed : ℕ) → (rule11 room needed ≡ passed) ↔ (needed ≤ room)
unfolding rule11
rule11_passes room needed = Iff.trans (test_passes 11 needed (ltb room needed)) (ltb-false room needed, le-ltb room needed)
