-- Number and place tell the reasons apart, and so what a step comes to is told apart by what it says; what a step's refusal says, its rule says.
-- Rests on Said.
use mathlib.Core.Path.{◌≡◌, refl, sym, ap, ◌∙◌}
use mathlib.Core.List.{[], ◌∷◌}
use lib.ListN.{get_or}
use Rattle.std.specs.Prelude.{Result, Ok, Err}
use Rattle.paper.specs.Refusals.{Ruling, passed, refusal, Answer, answer, refused, answered}
use Rattle.refusals.specs.Said.{ruled, refused_by, ruling, answer_of, ruling_of}
use Rattle.refusals.proofs.Rulings.{ruling-answer, no_refusal}
use Rattle.refusals.specs.declared.Refusal.{Refusal}
use Rattle.refusals.specs.declared.Refusal.TheVariants.{
  Malformed,
  TooLarge,
  NoRoom,
  Missing,
  Second,
  Cycle,
  NotAccepted,
  Empty,
  Unknown,
  Repeated,
  UnknownPort,
  BadRecord,
  Straddling,
  TooLong,
}

-- the reason of a rule, by its number from 0; 0 is no rule's
pub meant : Ruling → Refusal
meant passed = NoRoom
meant (refusal i v) =
    get_or
    (NoRoom ∷ Malformed ∷ TooLarge ∷ NoRoom ∷ Missing v ∷ Second v ∷ Cycle v ∷ NotAccepted ∷ Empty ∷ Unknown v ∷ Repeated v ∷ TooLong v ∷ BadRecord v
    ∷ Straddling v
    ∷ UnknownPort v
    ∷ [])
    i
    NoRoom

pub meant_back : (x : Refusal) → meant (ruled x) ≡ x
unfolding meant
meant_back Malformed = refl
meant_back TooLarge = refl
meant_back NoRoom = refl
meant_back (Missing k) = refl
meant_back (Second k) = refl
meant_back (Cycle v) = refl
meant_back NotAccepted = refl
meant_back Empty = refl
meant_back (Unknown i) = refl
meant_back (Repeated i) = refl
meant_back (UnknownPort i) = refl
meant_back (BadRecord i) = refl
meant_back (Straddling v) = refl
meant_back (TooLong n) = refl

pub ruled_injective : (x y : Refusal) → ruled x ≡ ruled y → x ≡ y
ruled_injective x y e = sym (meant_back x) ∙ ap meant e ∙ meant_back y

-- ---- what a step comes to

module _ {A : Type 0} where
  step_meant : Answer A → Result A Refusal
  step_meant (answered x) = Ok x
  step_meant (refused i v) = Err (meant (refusal i v))

  step_back : (r : Result A Refusal) → step_meant (answer_of r) ≡ r
  unfolding step_meant
  step_back (Ok x) = refl
  step_back (Err x) = ap (λ (y : Refusal). Err y) (meant_back x)

  pub answer_of_injective : (r s : Result A Refusal) → answer_of r ≡ answer_of s → r ≡ s
  answer_of_injective r s e = sym (step_back r) ∙ ap step_meant e ∙ step_back s

  -- a refusal is the rule's that decides, and a value is the one that would be answered
  pub rule_said : (x : Refusal) {u : Ruling} (v : A) → refused_by x ≡ answer u v → ruled x ≡ u
  unfolding ruling
  rule_said x {u} v e = ap ruling e ∙ ruling-answer u v

  pub value_said : {x : A} {u : Ruling} {v : A} → answered x ≡ answer u v → (passed ≡ u) × (x ≡ v)
  unfolding answer ruling
  value_said {u = passed} e = (refl, same e)
    where
      same : {x y : A} → answered x ≡ answered y → x ≡ y
      same e = cc
  value_said {u = refusal i v} e = absurd (no_refusal (ap ruling e))

-- a step with no value of its own is told apart by what it says of its rules
pub ruling_of_injective : (r s : Result (Unit {0}) Refusal) → ruling_of r ≡ ruling_of s → r ≡ s
ruling_of_injective (Ok x) (Ok y) e = refl
ruling_of_injective (Ok x) (Err y) e = absurd (no_refusal e)
ruling_of_injective (Err x) (Ok y) e = absurd (no_refusal (sym e))
ruling_of_injective (Err x) (Err y) e = ap (λ (z : Refusal). Err z) (ruled_injective x y e)
