-- A check and then its ports: a refusal of the check comes before 14, and a conflict before what the check replied.
-- Rests on refusals' Answers and Rulings, and tables' Within.
use Prim.Native.Nat.{ℕ}
use mathlib.Core.Path.{◌≡◌, refl, sym, ap, ◌∙◌}
use mathlib.Core.Bool.{Bool, true, false, cond}
use mathlib.Core.List.{List, ◌++◌}
use Rattle.std.specs.Prelude.{Result, Ok, Err}
use Rattle.paper.specs.Intervals.{Reply}
use Rattle.paper.specs.Refusals.{Ruling, answer, answered, decide}
use Rattle.refusals.specs.Said.{ruled, refused_by}
use Rattle.refusals.specs.declared.Refusal.{Refusal}
use Rattle.refusals.proofs.Answers.{rule_said, value_said}
use Rattle.refusals.proofs.Rulings.{no_refusal, first_decides, then_decides}
use Rattle.answers.specs.Said.{line_said, topo_said}
use Rattle.answers.specs.declared.Verdict.{Verdict}
use Rattle.tables.specs.declared.Layout.{Layout}
use Rattle.tables.specs.Answered.{Answered}
use Rattle.tables.proofs.Within.{within_both}

module _ {A : Type 0} {at : Layout} {a m : List ℕ} {rules : List Ruling} {x : A} where
  -- "the check chosen, whose refusals come first"
  pub check_refused : (why : Refusal) → Answered at a m (refused_by why) rules x → (rest : List Ruling) (y : A) → Answered at a m (refused_by why) (rules ++ rest) y
  unfolding answer
  check_refused why checked rest y = record { says = ap (λ (u : Ruling). answer u y) so; kept = checked.kept }
    where
      so : ruled why ≡ decide (rules ++ rest)
      so = rule_said why x checked.says ∙ sym (first_decides rules rest (λ f. no_refusal (sym (rule_said why x checked.says ∙ f))))

  -- else its ports are looked at
  module _ {value : A} (checked : Answered at a m (answered value) rules x) where
    then_so : (ports : List Ruling) → decide (rules ++ ports) ≡ decide ports
    then_so ports = then_decides rules ports (value_said checked.says).0

    -- 14 refuses before a conflict is asked for
    pub ports_refused : {o : List ℕ} {ports : List Ruling} {met : Bool} (why : Refusal) → Answered at m o (refused_by why) ports met → (y : A) → Answered at a o (refused_by why) (rules ++ ports) y
    unfolding answer
    ports_refused {ports = ports} {met} why looked y =
        record {
          says = ap (λ (u : Ruling). answer u y) (rule_said why met looked.says ∙ sym (then_so ports));
          kept = within_both checked.kept looked.kept;
        }

    ports_passed : {o : List ℕ} {ports : List Ruling} {met : Bool} {r : Bool} → Answered at m o (answered r) ports met → (y : A) → answered y ≡ answer (decide (rules ++ ports)) y
    unfolding answer
    ports_passed {ports = ports} looked y = ap (λ (u : Ruling). answer u y) ((value_said looked.says).0 ∙ sym (then_so ports))

    -- "no (count 0) if any listed input is the other end of the FIRST link of a listed output"
    pub ports_meet : {o : List ℕ} {ports : List Ruling} {met : Bool} → Answered at m o (answered true) ports met → (denied : A) → Answered at a o (answered denied) (rules ++ ports) (cond met denied x)
    ports_meet {met = met} looked denied =
        record {
          says =
              ap (λ (t : Bool). answered (cond t denied x)) (value_said looked.says).1
              ∙ ports_passed looked (cond met denied x);
          kept = within_both checked.kept looked.kept;
        }

    -- "else the check chosen"
    pub ports_clear : {o : List ℕ} {ports : List Ruling} {met : Bool} → Answered at m o (answered false) ports met → (denied : A) → Answered at a o (answered value) (rules ++ ports) (cond met denied x)
    ports_clear {met = met} looked denied =
        record {
          says =
              ap answered (value_said checked.says).1 ∙ ap (λ (t : Bool). answered (cond t denied x)) (value_said looked.says).1
              ∙ ports_passed looked (cond met denied x);
          kept = within_both checked.kept looked.kept;
        }

-- ---- an answer that is not taken apart is a refusal

module _ {at : Layout} {a m : List ℕ} {rules : List Ruling} where
  pub line_passed_up : (r : Result Verdict Refusal) → ((v : Verdict) → r ≡ Ok v → ⊥) → {x : Reply × ℕ} → Answered at a m (line_said r) rules x
      → (rest : List Ruling) (y : Reply × ℕ) → Answered at a m (line_said r) (rules ++ rest) y
  line_passed_up (Ok v) h checked rest y = absurd (h v refl)
  line_passed_up (Err why) h checked rest y = check_refused why checked rest y

  pub order_passed_up : (r : Result Bool Refusal) → ((t : Bool) → r ≡ Ok t → ⊥) → {x : Reply} → Answered at a m (topo_said r) rules x
      → (rest : List Ruling) (y : Reply) → Answered at a m (topo_said r) (rules ++ rest) y
  order_passed_up (Ok t) h checked rest y = absurd (h t refl)
  order_passed_up (Err why) h checked rest y = check_refused why checked rest y
