-- Laws of the small map alone: what `add` does to its lines, where a line stands, and one line more.
-- Rests on lists' First and Places.
use Prim.Native.Nat.{ℕ, zero, suc, ◌≤◌, ◌<◌}
use native.Mathlib.Decide.{dec_lt}
use native.Mathlib.Omega.{arith}
use mathlib.Core.Path.{◌≡◌, refl, sym, ap}
use mathlib.Core.Bool.{Bool, true, false, ◌||◌, cond}
use mathlib.Core.List.{List, [], ◌∷◌, ◌++◌, append-nil}
use lib.ListN.{length, get_or, set}
use lib.Seq.{take-length}
use lib.Dec.{eqb}
use borrow.Author.Tests.{eqb-true, eqb-false}
use Rattle.lists.specs.Lists.{member, times}
use Rattle.lists.specs.Found.{absent, at}
use Rattle.lists.proofs.Count.{one_eq, eqb_sym}
use Rattle.lists.proofs.First.{FirstOf, first_at, first_absent}
use Rattle.lists.proofs.Places.{PlaceBelow, times-place, place-times}
use Rattle.paper.specs.Lookup.{lookup}
use Rattle.accepted_theory.specs.collecting.SmallMap.{Held, widened, add, add_lines}
use Rattle.accepted_theory.specs.collecting.Collected.{lines_in, slot, fresh}

-- ---- one line more

pub add_lines_snoc : (p : ℕ) (ls : List ℕ) (l : ℕ) (hs : List Held) → add_lines p (ls ++ (l ∷ [])) hs ≡ add p l (add_lines p ls hs)
unfolding add_lines
add_lines_snoc p [] l hs = refl
add_lines_snoc p (k ∷ ks) l hs = add_lines_snoc p ks l (add p k hs)

-- ---- the lines

-- a line that is there stays, a new one comes last
pub lines-add : (p l : ℕ) (hs : List Held) → lines_in (add p l hs) ≡ lines_in hs ++ cond (member l (lines_in hs)) [] (l ∷ [])
unfolding add widened
lines-add p l [] = refl
lines-add p l (h ∷ hs) = go (eqb h.interval.line l) (eqb_sym l h.interval.line) (lines-add p l hs)
  where
    k : ℕ
    k = h.interval.line

    go : (t : Bool) → eqb l k ≡ t → lines_in (add p l hs) ≡ lines_in hs ++ cond (member l (lines_in hs)) [] (l ∷ [])
        → lines_in (cond t (widened h p ∷ hs) (h ∷ add p l hs)) ≡ (k ∷ lines_in hs) ++ cond (eqb l k || member l (lines_in hs)) [] (l ∷ [])
    go true e ih = rw e (sym (append-nil (k ∷ lines_in hs)))
    go false e ih = rw e (ap (λ (ks : List ℕ). k ∷ ks) ih)

-- ---- where a line stands

pub lookup_absent : (xs : List ℕ) (k : ℕ) → lookup xs k ≡ absent → times k xs ≡ 0
unfolding lookup
lookup_absent xs k e = go (dec_lt 0 (times k xs))
  where
    nowhere : PlaceBelow (length xs) k xs → ⊥
    nowhere r =
        eqb-false (get_or xs r.place 0) k (first_absent (λ i. eqb (get_or xs i 0) k) (length xs) e r.place r.inside) r.holds

    go : Dec (0 < times k xs) → times k xs ≡ 0
    go (yes m) = absurd (nowhere (place-times (length xs) k xs (omega (arith, ap (times k) (take-length xs)))))
    go (no m) = omega arith

pub slot_absent : (hs : List Held) (l : ℕ) → slot hs l ≡ absent → times l (lines_in hs) ≡ 0
unfolding slot
slot_absent hs l e = lookup_absent (lines_in hs) l e

-- the first place of a line
pub slot_at : (hs : List Held) (l i : ℕ) → slot hs l ≡ at i → FirstOf (λ j. eqb (get_or (lines_in hs) j 0) l) (length (lines_in hs)) i
unfolding slot lookup
slot_at hs l i e = first_at (λ j. eqb (get_or (lines_in hs) j 0) l) (length (lines_in hs)) i e

pub slot-times : (hs : List Held) (l i : ℕ) → slot hs l ≡ at i → 1 ≤ times l (lines_in hs)
slot-times hs l i e =
    let r = slot_at hs l i e in
    omega (arith, times-place (lines_in hs) i r.known, ap (λ (k : ℕ). times k (lines_in hs)) (eqb-true (get_or (lines_in hs) i 0) l r.passes))

-- a line that is new comes last ..
pub add-new : (p l : ℕ) (hs : List Held) → times l (lines_in hs) ≡ 0 → add p l hs ≡ hs ++ (fresh p l ∷ [])
unfolding add
add-new p l [] e = refl
add-new p l (h ∷ hs) e = go (eqb h.interval.line l) (eqb_sym l h.interval.line) (add-new p l hs)
  where
    go : (t : Bool) → eqb l h.interval.line ≡ t → (times l (lines_in hs) ≡ 0 → add p l hs ≡ hs ++ (fresh p l ∷ []))
        → cond t (widened h p ∷ hs) (h ∷ add p l hs) ≡ h ∷ (hs ++ (fresh p l ∷ []))
    go true q ih = absurd (omega (arith, one_eq l h.interval.line (eqb-true l h.interval.line q)))
    go false q ih = ap (λ (r : List Held). h ∷ r) (ih (omega arith))

-- .. and one that is there is widened in its place
pub add-there : (p l : ℕ) (hs : List Held) (i : ℕ) (d : Held) → FirstOf (λ j. eqb (get_or (lines_in hs) j 0) l) (length (lines_in hs)) i
    → add p l hs ≡ set hs i (widened (get_or hs i d) p)
unfolding add
add-there p l [] i d r = absurd (omega (arith, r.known))
add-there p l (h ∷ hs) zero d r = rw r.passes
add-there p l (h ∷ hs) (suc i) d r =
    rw (r.fail 0 (omega arith))
    (ap (λ (ks : List Held). h ∷ ks)
    (add-there p l hs i d
    (record { known = omega (arith, r.known); passes = r.passes; fail = λ k m. r.fail (suc k) (omega arith) })))
