-- A call from its opening's answer: a refusal is passed up with the area as it was left, and else what the question answers on the opened area
-- is what the call answers. Rests on opening's Using, refusals' Rulings and accepted_theory (two areas with the same words in use).
use Prim.Native.Nat.{ℕ}
use mathlib.Core.Path.{◌≡◌, sym, ap, ap₂, ◌∙◌}
use mathlib.Core.Logic.{◌≢◌}
use mathlib.Core.Bool.{Bool, not}
use mathlib.Core.List.{List, [], ◌∷◌, ◌++◌}
use lib.Seq.{sets}
use lib.Dec.{ltb}
use Rattle.lists.specs.Found.{placed}
use Rattle.paper.specs.Area.{W}
use Rattle.paper.specs.Refusals.{Ruling, passed, Answer, answer, on_refusal, decide, refuse, rule1, rule2, rule3, rule45, rule7}
use Rattle.paper.specs.Calls.{untouched, opening, area_after, call, call_into}
use Rattle.accepted_theory.specs.InUse.{SameInUse}
use Rattle.accepted_theory.specs.SameOutcomes.{SameWritten, SameOutcomes}
use Rattle.accepted_theory.proofs.InUse.{accepted_in_use}
use Rattle.accepted_theory.proofs.Calls.{same_outcomes}
use Rattle.refusals.specs.Said.{ruled, refused_by}
use Rattle.refusals.specs.declared.Refusal.{Refusal}
use Rattle.refusals.proofs.Rulings.{no_refusal, first_decides, then_decides}
use Rattle.opening.specs.Opened.{OpenLeft, scratch_zeroed}
use Rattle.std.specs.Prelude.{Ok, Err}
use Rattle.opening.proofs.Using.{refusal_decides, all-passed, usable-before, opened_kept, usable, left-cleared}
use Rattle.tables.specs.Answered.{Answered, AnsweredInto}
use Rattle.tables.specs.declared.Layout.{Layout}
use Rattle.tables.proofs.Usable.{in_use_still, roomy}

-- ---- a refusal at opening is the call's, whatever it would else ask and answer

module _ {b a : List ℕ} {x : Refusal} {m : List ℕ} (known : OpenLeft b a (Err x) m) (rules : List Ruling) where
  decided : ruled x ≡ decide (opening b a ++ rules)
  decided = sym (first_decides (opening b a) rules (λ f. no_refusal (sym (refusal_decides known ∙ f))) ∙ sym (refusal_decides known))

  pub refuses : decide (opening b a ++ rules) ≢ passed
  refuses f = no_refusal (sym (decided ∙ f))

  module _ {A : Type 0} (y : A) where
    said_so : refused_by x ≡ answer (decide (opening b a ++ rules)) y
    unfolding answer
    said_so = ap (λ (u : Ruling). answer u y) decided

    pub refused_call : record { answer = refused_by x; area = m } ≡ call b a rules y
    unfolding call
    refused_call = ap₂ (λ (y : Answer A) (z : List ℕ). record { answer = y; area = z }) said_so known.left

    pub refused_into : (buffer result : List ℕ) → record { answer = refused_by x; area = m; buffer = buffer } ≡ call_into b a rules y buffer result
    unfolding call_into on_refusal
    refused_into buffer result =
        ap₂ (λ (y : Answer A) (z : List ℕ). record { answer = y; area = z; buffer = buffer }) said_so known.left
        ∙ ap (λ (z : List ℕ). record { answer = answer (decide (opening b a ++ rules)) y; area = area_after b a; buffer = z })
        (ap (λ (u : Ruling). on_refusal u buffer (sets buffer 0 result)) decided)

-- ---- and else the tables are usable, and the question is asked

module _ {b a : List ℕ} {at : Layout} {m : List ℕ} (known : OpenLeft b a (Ok at) m) where
  kept : SameInUse b a m
  kept = in_use_still (usable-before known) (opened_kept known)

  pub same_outcomes_so : SameOutcomes b a m
  same_outcomes_so = same_outcomes kept (roomy (usable-before known)) (roomy (usable known))

  -- opening passes on the opened area too
  passed_still : passed ≡ decide (opening b m)
  unfolding opening untouched rule3 rule7
  passed_still =
      all-passed known
      ∙ ap₂ (λ (k : ℕ) (t : Bool). decide (rule1 b ∷ rule2 b ∷ refuse 3 (placed (ltb k (W b)) 0) ∷ rule45 b ∷ refuse 7 (placed (not t) 0) ∷ []))
      (sym (opened_kept known).long)
      (accepted_in_use kept (roomy (usable-before known)) (roomy (usable known)))

  -- what a question answers on the opened area, and leaves once the scratch is 0 again, is what the call does, if the areas answer alike

  then_said : {A : Type 0} (rules : List Ruling) (x : A) → answer (decide rules) x ≡ answer (decide (opening b m ++ rules)) x
  then_said rules x = ap (λ (u : Ruling). answer u x) (sym (then_decides (opening b m) rules passed_still))

  pub answered_call : {A : Type 0} {said : Answer A} {rules : List Ruling} {x : A} {z exit : List ℕ} → Answered at m z said rules x
      → exit ≡ scratch_zeroed z at → (others : List Ruling) (y : A)
      → answer (decide (opening b a ++ others)) y ≡ answer (decide (opening b m ++ rules)) x → record { answer = said; area = exit } ≡ call b a others y
  unfolding call
  answered_call {A} {said} {rules} {x} asked filled others y alike =
      ap₂ (λ (u : Answer A) (w : List ℕ). record { answer = u; area = w }) (asked.says ∙ then_said rules x ∙ sym alike) (left-cleared known asked.kept filled)

  pub answered_into : {A : Type 0} {said : Answer A} {rules : List Ruling} {x : A} {z exit buffer after result : List ℕ}
      → AnsweredInto at m z said rules x buffer after result → exit ≡ scratch_zeroed z at
      → (others : List Ruling) (y : A) (results : List ℕ)
      → SameWritten (call_into b a others y buffer results) (call_into b m rules x buffer result)
      → record { answer = said; area = exit; buffer = after } ≡ call_into b a others y buffer results
  unfolding call_into
  answered_into {A} {said} {rules} {x} {z} {exit} {buffer} {after} {result} asked filled others y results alike =
      ap₂ (λ (u : Answer A) (w : List ℕ). record { answer = u; area = w; buffer = after }) (asked.says ∙ then_said rules x ∙ sym alike.0)
      (left-cleared known asked.kept filled)
      ∙ ap (λ (w : List ℕ). record { answer = answer (decide (opening b a ++ others)) y; area = area_after b a; buffer = w }) (
      asked.written ∙ ap (λ (u : Ruling). on_refusal u buffer (sets buffer 0 result)) (sym (then_decides (opening b m) rules passed_still)) ∙ sym alike.1
      )

  -- a question that writes nothing
  pub answered_still : {A : Type 0} (rules : List Ruling) (x : A) {said : Answer A} → said ≡ answer (decide rules) x
      → record { answer = said; area = m } ≡ call b a rules x
  unfolding call
  answered_still {A} rules x e =
      ap₂ (λ (u : Answer A) (w : List ℕ). record { answer = u; area = w })
      (e ∙ ap (λ (u : Ruling). answer u x) (sym (then_decides (opening b a) rules (all-passed known)))) known.left
