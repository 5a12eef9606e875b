-- What an input is known by, where its refusals do not hold: W words after 3, tables after 7, nodes after 9, records after 12, a port after 14.
-- Rests on lists.First (what a search that found nothing says) and Every.
use Prim.Native.Nat.{ℕ, ◌≤◌, ◌<◌}
use native.Mathlib.Omega.{arith}
use mathlib.Core.Path.{◌≡◌, refl}
use mathlib.Core.Bool.{Bool, true, false, not, cond}
use mathlib.Core.List.{List, [], ◌∷◌}
use lib.ListN.{length, get_or}
use lib.Dec.{leb, ltb}
use borrow.Author.Tests.{ltb-false, leb-false}
use Rattle.lists.specs.Lists.{upto}
use Rattle.lists.specs.Found.{Found, absent, at, placed, first}
use Rattle.lists.proofs.First.{first_absent}
use Rattle.lists.proofs.Tests.{or_false_both, granted}
use Rattle.paper.specs.Map.{N, P}
use Rattle.paper.specs.Area.{W, K}
use Rattle.paper.specs.Accepted.{Accepted, accepted}
use Rattle.paper.specs.Records.{record_at, records_in}
use Rattle.paper.specs.Refusals.{passed, refusal, refuse, earliest, bad_record, whole_records, rule3, rule7, rule9, rule12, rule14}
use Rattle.paper.proofs.Accepted.{accepted-says}
use Rattle.accepted_theory.specs.Every.{Every}
use Rattle.accepted_theory.specs.SameTables.{KnownNode, KnownRecord}
use Rattle.accepted_theory.proofs.Every.{every-place, every_map, every_upto}

pub not_passed : {n p : ℕ} → refusal n p ≡ passed → ⊥
not_passed e = let z : ◌≡◌ {A = ℕ} 0 1 = cc in omega arith

nothing_found : (n : ℕ) (f : Found) → refuse n f ≡ passed → f ≡ absent
unfolding refuse
nothing_found n absent e = refl
nothing_found n (at p) e = absurd (not_passed e)

unplaced : (t : Bool) → placed t 0 ≡ absent → t ≡ false
unplaced true e = cc
unplaced false e = refl

-- no entry is at or above the bound
none_above : (n bound : ℕ) (list : List ℕ) → refuse n (earliest (leb bound) list) ≡ passed → (i : ℕ) → i < length list → get_or list i 0 < bound
unfolding earliest
none_above n bound list e i h =
    leb-false bound (get_or list i 0)
    (first_absent (λ j. leb bound (get_or list j 0)) (length list) (nothing_found n (first (λ j. leb bound (get_or list j 0)) (length list)) e) i h)

pub area-passed : (b a : List ℕ) → rule3 b a ≡ passed → W b ≤ length a
unfolding rule3
area-passed b a e = ltb-false (length a) (W b) (unplaced (ltb (length a) (W b)) (nothing_found 3 (placed (ltb (length a) (W b)) 0) e))

pub tables-passed : (b a : List ℕ) → rule7 b a ≡ passed → Accepted b a
unfolding rule7
tables-passed b a e = granted (accepted-says b a) (unplaced (not (accepted b a)) (nothing_found 7 (placed (not (accepted b a)) 0) e))

pub nodes-passed : (b list : List ℕ) → rule9 b list ≡ passed → Every (KnownNode b) list
unfolding rule9
nodes-passed b list e = every-place (KnownNode b) 0 list (none_above 9 (N b) list e)

pub port-known : (b : List ℕ) (p : ℕ) → rule14 b (p ∷ []) ≡ passed → p < P b
unfolding rule14
port-known b p e = none_above 14 (P b) (p ∷ []) e 0 (omega arith)

pub records-passed : (b a words : List ℕ) (n : ℕ) → rule12 b a words n ≡ passed → Every (KnownRecord b a) (records_in words n)
unfolding rule12 records_in bad_record
records-passed b a words n e = go (ltb (whole_records words) n) e
  where
    known : (i : ℕ) → bad_record b a words i ≡ false → (record_at words i).line < K b a
    known i e = leb-false (K b a) (record_at words i).line (or_false_both _ _ (or_false_both _ _ (or_false_both _ _ e).0).0).0

    go : (short : Bool) → cond short (refusal 12 (whole_records words)) (refuse 12 (first (bad_record b a words) n)) ≡ passed
        → Every (KnownRecord b a) (records_in words n)
    go true e = absurd (not_passed e)
    go false e =
        every_map (λ i. i < n) (KnownRecord b a) (record_at words)
        (λ i h. known i (first_absent (bad_record b a words) n (nothing_found 12 (first (bad_record b a words) n) e) i h))
        (upto n)
        (every_upto n)
