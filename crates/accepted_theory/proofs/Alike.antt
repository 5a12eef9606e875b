-- Two calls whose rulings are the same one by one, and whose results are the same once none refuses: they give the same answer.
-- Rests on Refusals.
use mathlib.Core.Path.{◌≡◌, refl, ap, ◌∙◌, subst}
use mathlib.Core.List.{List, [], ◌∷◌}
use Rattle.paper.specs.Refusals.{Ruling, passed, refusal, decide, answered, answer, on_refusal}
use Rattle.accepted_theory.proofs.Refusals.{not_passed}

pub record Alike {A : Type 0} (rs ss : List Ruling) (x y : A) : Type 0 where
  pub rulings : decide rs ≡ decide ss
  pub results : decide rs ≡ passed → x ≡ y

module _ {A : Type 0} {x y : A} where
  pub in_the_end : x ≡ y → Alike [] [] x y
  in_the_end e = record { rulings = refl; results = λ p. e }

  -- a ruling that is the same, and what it leaves when it passes
  pub next : {r s : Ruling} {rs ss : List Ruling} → r ≡ s → (r ≡ passed → Alike rs ss x y) → Alike (r ∷ rs) (s ∷ ss) x y
  unfolding decide
  next {r} {s} {rs} {ss} e later = subst (λ (u : Ruling). Alike (r ∷ rs) (u ∷ ss) x y) e (go r later)
    where
      go : (r : Ruling) → (r ≡ passed → Alike rs ss x y) → Alike (r ∷ rs) (r ∷ ss) x y
      go passed later = record { rulings = (later refl).rulings; results = (later refl).results }
      go (refusal n p) later = record { rulings = refl; results = λ e. absurd (not_passed e) }

  module _ {rs ss : List Ruling} (alike : Alike rs ss x y) where
    pub same_answer : {B : Type 0} (f : A → B) → answer (decide rs) (f x) ≡ answer (decide ss) (f y)
    unfolding answer
    same_answer f = go (decide rs) alike.results ∙ ap (λ (r : Ruling). answer r (f y)) alike.rulings
      where
        go : (r : Ruling) → (r ≡ passed → x ≡ y) → answer r (f x) ≡ answer r (f y)
        go passed e = ap (λ (z : A). answered (f z)) (e refl)
        go (refusal n p) e = refl

    pub same_kept : {B : Type 0} (refused : B) (f : A → B) → on_refusal (decide rs) refused (f x) ≡ on_refusal (decide ss) refused (f y)
    unfolding on_refusal
    same_kept refused f = go (decide rs) alike.results ∙ ap (λ (r : Ruling). on_refusal r refused (f y)) alike.rulings
      where
        go : (r : Ruling) → (r ≡ passed → x ≡ y) → on_refusal r refused (f x) ≡ on_refusal r refused (f y)
        go passed e = ap f (e refl)
        go (refusal n p) e = refl
