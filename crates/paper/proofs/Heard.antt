-- What a host hears of a check is what the export told, and what the promises of demand 3 say of the numbers that it then has in hand.
-- Rests on Exports and Promise.
use Prim.Native.Nat.{ℕ}
use mathlib.Core.Path.{◌≡◌, refl, sym, ap, ◌∙◌, subst}
use mathlib.Core.Logic.{◌↔◌}
use mathlib.Core.Bool.{Bool, true, false, cond}
use mathlib.Core.List.{List, [], ◌∷◌}
use lib.Dec.{eqb}
use lib.ListN.{get_or}
use borrow.Author.Tests.{eqb-true}
use Rattle.paper.specs.Intervals.{Reply, Yes, No}
use Rattle.paper.specs.Refusals.{Answer, refused, answered}
use Rattle.paper.specs.Path.{Shown, steps, no_steps}
use Rattle.paper.specs.Exports.{Told, tell, in_line_reply, in_reply, in_shown, heard_line, heard_order, heard_path}
use Rattle.paper.specs.Plain.{Convex, Ahead, Number}
use Rattle.paper.specs.Promise.{LinePromise, OrderPromise}
use Rattle.paper.proofs.Promise.{no_yes, never_answered, same_answer}

-- ---- hearing what was told gives the answer back

line_of : Told → Answer (Reply × ℕ)
line_of t = heard_line t.case (get_or t.values 0 0) t.number t.place

order_of : Told → Answer Reply
order_of t = heard_order t.case t.number t.place

module _ (said : Answer (Reply × ℕ)) (c₀ n₀ p₀ : ℕ) where
  pub line_heard_told : {case count number place : ℕ}
      → record { case = case; values = count ∷ []; number = number; place = place } ≡ tell in_line_reply said (c₀ ∷ []) n₀ p₀
      → heard_line case count number place ≡ said
  unfolding tell heard_line in_line_reply line_of
  line_heard_told e = ap line_of e ∙ back said
    where
      back : (x : Answer (Reply × ℕ)) → line_of (tell in_line_reply x (c₀ ∷ []) n₀ p₀) ≡ x
      back (refused n p) = refl
      back (answered (Yes, n)) = refl
      back (answered (No, n)) = refl

module _ (said : Answer Reply) (n₀ p₀ : ℕ) where
  pub order_heard_told : {case number place : ℕ}
      → record { case = case; values = []; number = number; place = place } ≡ tell in_reply said [] n₀ p₀
      → heard_order case number place ≡ said
  unfolding tell heard_order in_reply order_of
  order_heard_told e = ap order_of e ∙ back said
    where
      back : (x : Answer Reply) → order_of (tell in_reply x [] n₀ p₀) ≡ x
      back (refused n p) = refl
      back (answered Yes) = refl
      back (answered No) = refl

path_of : Told → Answer Shown
path_of t = heard_path t.case (get_or t.values 0 0) t.number t.place

module _ (said : Answer Shown) (c₀ n₀ p₀ : ℕ) where
  pub path_heard_told : {case count number place : ℕ}
      → record { case = case; values = count ∷ []; number = number; place = place } ≡ tell in_shown said (c₀ ∷ []) n₀ p₀
      → heard_path case count number place ≡ said
  unfolding tell heard_path in_shown path_of
  path_heard_told e = ap path_of e ∙ back said
    where
      back : (x : Answer Shown) → path_of (tell in_shown x (c₀ ∷ []) n₀ p₀) ≡ x
      back (refused n p) = refl
      back (answered (steps n)) = refl
      back (answered no_steps) = refl

-- ---- what the promise says of the numbers: 1 exactly for a convex list, and then the count is the number of steps ahead

module _ (case count number place : ℕ) where
  line_1_is_yes : case ≡ 1 → heard_line case count number place ≡ answered (Yes, count)
  unfolding heard_line
  line_1_is_yes e = ap (λ (k : ℕ). heard_line k count number place) e

  line_yes_is_1 : {c : ℕ} → heard_line case count number place ≡ answered (Yes, c) → case ≡ 1
  unfolding heard_line
  line_yes_is_1 {c} e = go (eqb case 1) (eqb case 2) refl e
    where
      go : (one two : Bool) → eqb case 1 ≡ one
          → cond {A = Answer (Reply × ℕ)} one (answered (Yes, count)) (cond two (answered (No, count)) (refused number place)) ≡ answered (Yes, c)
          → case ≡ 1
      go true two q e = eqb-true case 1 q
      go false true q e = absurd (no_yes (ap (λ (x : Reply × ℕ). x.0) (same_answer e)))
      go false false q e = absurd (never_answered e)

  module _ {b a list : List ℕ} (p : LinePromise b a list (heard_line case count number place)) where
    said_yes : case ≡ 1 → ◌≡◌ {A = Reply × ℕ} (p.reply, p.count) (Yes, count)
    said_yes e = same_answer (sym p.is ∙ line_1_is_yes e)

    pub line_1_exactly : (case ≡ 1) ↔ Convex b list
    line_1_exactly = (
      λ e. p.exactly.0 (ap (λ (x : Reply × ℕ). x.0) (said_yes e)),
      λ c. line_yes_is_1 (p.is ∙ ap (λ (r : Reply). answered (r, p.count)) (p.exactly.1 c)),
    )

    pub line_1_number : case ≡ 1 → Number (Ahead b a list) count
    line_1_number e =
        subst (Number (Ahead b a list)) (ap (λ (x : Reply × ℕ). x.1) (said_yes e)) (p.number (ap (λ (x : Reply × ℕ). x.0) (said_yes e)))

module _ (case number place : ℕ) where
  order_1_is_yes : case ≡ 1 → heard_order case number place ≡ answered Yes
  unfolding heard_order
  order_1_is_yes e = ap (λ (k : ℕ). heard_order k number place) e

  order_yes_is_1 : heard_order case number place ≡ answered Yes → case ≡ 1
  unfolding heard_order
  order_yes_is_1 e = go (eqb case 1) (eqb case 2) refl e
    where
      go : (one two : Bool) → eqb case 1 ≡ one → cond one (answered Yes) (cond two (answered No) (refused number place)) ≡ answered Yes → case ≡ 1
      go true two q e = eqb-true case 1 q
      go false true q e = absurd (no_yes (same_answer e))
      go false false q e = absurd (never_answered e)

  pub order_1_exactly : {b list : List ℕ} → OrderPromise b list (heard_order case number place) → (case ≡ 1) ↔ Convex b list
  order_1_exactly p = (
    λ e. p.exactly.0 (same_answer (sym p.is ∙ order_1_is_yes e)),
    λ c. order_yes_is_1 (p.is ∙ ap answered (p.exactly.1 c)),
  )

-- ---- .. and a refusal keeps no promise

line_3_never : {b a list : List ℕ} (count number place : ℕ) → LinePromise b a list (heard_line 3 count number place) → ⊥
unfolding heard_line
line_3_never count number place p = never_answered p.is

order_3_never : {b list : List ℕ} (number place : ℕ) → OrderPromise b list (heard_order 3 number place) → ⊥
unfolding heard_order
order_3_never number place p = never_answered p.is
