-- What an answer says of the rules behind it: a refusal is the first rule's that refused, and no refusal means that all passed.
-- Rests on Said and paper's Refusals.
use Prim.Native.Nat.{ℕ, ◌≤◌}
use native.Mathlib.Omega.{arith}
use mathlib.Core.Path.{◌≡◌, refl, sym, ap, ◌∙◌}
use mathlib.Core.Logic.{◌≢◌}
use mathlib.Core.Bool.{Bool, true, false}
use mathlib.Core.List.{List, [], ◌∷◌, ◌++◌}
use borrow.Author.Tests.{ltb-false}
use lib.Dec.{ltb}
use lib.ListN.{length}
use Rattle.lists.specs.Found.{placed}
use Rattle.paper.specs.Area.{W}
use Rattle.paper.specs.Refusals.{Ruling, passed, refusal, refuse, Answer, answer, refused, answered, on_refusal, decide, rule3}
use Rattle.refusals.specs.Said.{ruling}

-- ---- an answer and its ruling

module _ {A : Type 0} where
  pub ruling-answer : (u : Ruling) (x : A) → ruling (answer u x) ≡ u
  unfolding ruling answer
  ruling-answer passed x = refl
  ruling-answer (refusal n v) x = refl

  -- what rules an answer is the rule behind it
  pub ruled_by_lem : {q : Ruling} (r : Answer A) → q ≡ ruling r → (u : Ruling) (x : A) → r ≡ answer u x → q ≡ u
  ruled_by_lem r e u x f = e ∙ ap ruling f ∙ ruling-answer u x

  -- a refusal is all that the ruling says, whatever would else be answered
  pub refused_so : (r : Answer A) {u : Ruling} → ruling r ≡ u → u ≢ passed → (x : A) → r ≡ answer u x
  unfolding ruling answer
  refused_so (refused n v) e ne x = ap (λ (u : Ruling). answer u x) e
  refused_so (answered y) e ne x = absurd (ne (sym e))

-- ---- all of several rules passed

pub no_refusal : {n v : ℕ} → passed ≡ refusal n v → ⊥
no_refusal e = let z : ◌≡◌ {A = ℕ} 0 1 = cc in omega arith

pub head_passed : (u : Ruling) (us : List Ruling) → passed ≡ decide (u ∷ us) → (passed ≡ u) × (passed ≡ decide us)
unfolding decide
head_passed passed us e = (refl, e)
head_passed (refusal n v) us e = absurd (no_refusal e)

pub both_passed : (us vs : List Ruling) → passed ≡ decide (us ++ vs) → (passed ≡ decide us) × (passed ≡ decide vs)
unfolding decide
both_passed [] vs e = (refl, e)
both_passed (passed ∷ us) vs e = both_passed us vs e
both_passed (refusal n v ∷ us) vs e = absurd (no_refusal e)

-- the rules asked first decide, if one of them refuses; and else those asked then
pub first_decides : (us vs : List Ruling) → decide us ≢ passed → decide (us ++ vs) ≡ decide us
unfolding decide
first_decides [] vs ne = absurd (ne refl)
first_decides (passed ∷ us) vs ne = first_decides us vs ne
first_decides (refusal n v ∷ us) vs ne = refl

pub then_decides : (us vs : List Ruling) → passed ≡ decide us → decide (us ++ vs) ≡ decide vs
unfolding decide
then_decides [] vs e = refl
then_decides (passed ∷ us) vs e = then_decides us vs e
then_decides (refusal n v ∷ us) vs e = absurd (no_refusal e)

-- 3 passed: the area has W words
pub roomy : (b a : List ℕ) → passed ≡ rule3 b a → W b ≤ length a
unfolding rule3 refuse
roomy b a e = go (ltb (length a) (W b)) refl e
  where
    go : (t : Bool) → ltb (length a) (W b) ≡ t → passed ≡ refuse 3 (placed t 0) → W b ≤ length a
    go true q e = absurd (no_refusal e)
    go false q e = ltb-false (length a) (W b) q

-- ---- after a refusal, what a call would else have left does not matter

module _ {A : Type 0} where
  pub left_so : (us vs : List Ruling) → decide (us ++ vs) ≢ passed → (x y m o : A)
      → on_refusal (decide us) x (on_refusal (decide vs) y m) ≡ on_refusal (decide us) x (on_refusal (decide vs) y o)
  unfolding decide on_refusal
  left_so [] vs ne x y m o = go (decide vs) ne
    where
      go : (u : Ruling) → u ≢ passed → on_refusal u y m ≡ on_refusal u y o
      go passed ne = absurd (ne refl)
      go (refusal n v) ne = refl
  left_so (passed ∷ us) vs ne x y m o = left_so us vs ne x y m o
  left_so (refusal n v ∷ us) vs ne x y m o = refl
