-- A mark is 1 or 0, by a test: what reading it tells of the test.
-- Rests on lists' `one`.
use Prim.Native.Nat.{ℕ}
use native.Mathlib.Omega.{arith}
use mathlib.Core.Path.{◌≡◌, refl}
use mathlib.Core.Bool.{Bool, true, false, ◌||◌, not, cond}
use lib.Dec.{eqb}
use Rattle.lists.specs.Lists.{one}

pub mark_yes : (t : Bool) {w : ℕ} → w ≡ one t → (w ≡ 0 → ⊥) → t ≡ true
mark_yes true e ne = refl
mark_yes false e ne = absurd (ne e)

pub mark_no : (t : Bool) {w : ℕ} → w ≡ one t → w ≡ 0 → t ≡ false
mark_no true e z = absurd (omega arith)
mark_no false e z = refl

pub mark_zero : (t : Bool) → eqb (one t) 0 ≡ not t
mark_zero true = refl
mark_zero false = refl

pub mark-some : (t : Bool) → not (eqb (one t) 0) ≡ t
mark-some true = refl
mark-some false = refl

-- a mark that is written, or stands
pub mark_or : (s t : Bool) → cond t 1 (one s) ≡ one (s || t)
mark_or true true = refl
mark_or true false = refl
mark_or false true = refl
mark_or false false = refl
