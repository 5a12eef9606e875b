-- What is said of a result that goes into a lent buffer, and what stands there: 11 where it does not fit, and else its words alone.
-- Rests on paper's Refusals.
use Prim.Native.Nat.{ℕ, ◌≤◌, ◌<◌}
use mathlib.Core.Path.{◌≡◌, sym, ap, ◌∙◌}
use mathlib.Core.Bool.{Bool}
use mathlib.Core.List.{List, [], ◌∷◌}
use borrow.Author.Tests.{lt-ltb, le-ltb}
use lib.Seq.{sets}
use Rattle.lists.specs.Found.{placed}
use Rattle.paper.specs.Refusals.{Ruling, passed, refusal, refuse, rule11, decide, Answer, answer, answered, refused, on_refusal}
use Rattle.tables.specs.declared.Layout.{Layout}
use Rattle.tables.specs.Answered.{AnsweredInto}
use Rattle.tables.specs.Usable.{Scratched}

-- an answer and a buffer by the rules
pub record Into {A : Type 0} (answers : Answer A) (rules : List Ruling) (x : A) (buffer after result : List ℕ) : Type 0 where
  pub says : answers ≡ answer (decide rules) x
  pub written : after ≡ on_refusal (decide rules) buffer (sets buffer 0 result)

-- 11 by a test
pub too_long : (room many : ℕ) → room < many → refusal 11 many ≡ decide (rule11 room many ∷ [])
unfolding rule11 refuse decide
too_long room many h = ap (λ (t : Bool). decide (refuse 11 (placed t many) ∷ [])) (sym (lt-ltb room many h))

pub short_enough : (room many : ℕ) → many ≤ room → passed ≡ decide (rule11 room many ∷ [])
unfolding rule11 refuse decide
short_enough room many h = ap (λ (t : Bool). decide (refuse 11 (placed t many) ∷ [])) (sym (le-ltb room many h))

module _ {A : Type 0} (rules : List Ruling) (x : A) (buffer result : List ℕ) where
  pub into_refused : {n v : ℕ} → refusal n v ≡ decide rules → Into (refused n v) rules x buffer buffer result
  unfolding answer on_refusal
  into_refused e =
      record { says = ap (λ (u : Ruling). answer u x) e; written = ap (λ (u : Ruling). on_refusal u buffer (sets buffer 0 result)) e }

  pub into_passed : {after : List ℕ} → passed ≡ decide rules → after ≡ sets buffer 0 result → Into (answered x) rules x buffer after result
  unfolding answer on_refusal
  into_passed e f =
      record { says = ap (λ (u : Ruling). answer u x) e; written = f ∙ ap (λ (u : Ruling). on_refusal u buffer (sets buffer 0 result)) e }

pub into_answered : {at : Layout} {a m : List ℕ} {A : Type 0} {answers : Answer A} {rules : List Ruling} {x : A} {buffer after result : List ℕ}
    → Scratched at a m → Into answers rules x buffer after result → AnsweredInto at a m answers rules x buffer after result
into_answered kept into = record { says = into.says; kept = kept; written = into.written }
