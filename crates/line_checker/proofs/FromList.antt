-- A list that was taken in, however it came, for the questions on it: what is answered by the list in the scratch is answered by the caller's,
-- and a list that was not taken in is refused, whatever is asked of it.
-- Rests on take_in's ListTaken and refusals' Answers.
use Prim.Native.Nat.{ℕ}
use mathlib.Core.Path.{◌≡◌, ap, ◌∙◌, subst}
use mathlib.Core.List.{List}
use lib.ListN.{length, take}
use Rattle.std.specs.Prelude.{Ok, Err}
use Rattle.paper.specs.Calls.{line_rules}
use Rattle.paper.specs.Refusals.{Ruling, Answer, answer, answered, decide}
use Rattle.refusals.specs.Said.{refused_by}
use Rattle.refusals.specs.declared.Refusal.{Refusal}
use Rattle.refusals.proofs.Answers.{rule_said}
use Rattle.tables.specs.declared.Layout.{Layout}
use Rattle.tables.specs.Answered.{Answered}
use Rattle.tables.specs.Usable.{Usable, Scratched}
use Rattle.tables.proofs.Within.{within_both}
use Rattle.take_in.specs.Listed.{Listed}
use Rattle.take_in.specs.Said.{TakenIn}
use Rattle.take_in.proofs.Answers.{AllNodes, were_nodes}
use Rattle.take_in.proofs.ListTaken.{taken-kept, listed, list-passed, list_refused}
use Rattle.line_checker.specs.InRoom.{InRoom}
use Rattle.line_checker.proofs.Out.{refused_in}

-- ---- it was taken in

module _ {b a : List ℕ} {at : Layout} (usable : Usable b a at) {list : List ℕ} {c : ℕ} {m : List ℕ}
    (took : TakenIn at.sizes.nodes list a at.scratch (Ok c) m) where
  pub nodes : AllNodes at.sizes.nodes list at.scratch c m
  nodes = were_nodes took

  pub list-kept : Scratched at a m
  list-kept = taken-kept at took.kept

  pub list-stands : Listed m at c
  list-stands = listed usable nodes list-kept

  -- 8, 9 and 10 pass, and both areas answer alike
  module _ {A : Type 0} {x : Answer A} {y z : A} (e : x ≡ answered y) (same : y ≡ z) where
    list-says : x ≡ answer (decide (line_rules b list)) z
    unfolding answer
    list-says = e ∙ ap answered same ∙ ap (λ (u : Ruling). answer u z) (list-passed usable nodes list-kept)

    pub list-answered : {o : List ℕ} → Scratched at m o → Answered at a o x (line_rules b list) z
    list-answered kept = record { says = list-says; kept = within_both list-kept kept }

  pub list-found : {A R : Type 0} {told : R → A} {words : R → List ℕ} {x : Answer A} {y z : R} → y ≡ z → x ≡ answered (told y)
      → {o room : List ℕ} → Scratched at m o → take (length (words y)) room ≡ words y → InRoom told words at a o x (line_rules b list) z room
  list-found {told = told} {words} {y = y} same e {room = room} kept written =
      record {
        says = list-says e (ap told same);
        kept = within_both list-kept kept;
        written = λ fine. subst (λ r. take (length (words r)) room ≡ words r) same written;
      }

-- ---- it was refused

module _ {b a : List ℕ} {at : Layout} (usable : Usable b a at) {list : List ℕ} {x : Refusal} {m : List ℕ}
    (took : TakenIn at.sizes.nodes list a at.scratch (Err x) m) where
  pub list_not_found : {A R : Type 0} {told : R → A} {words : R → List ℕ} (y : R) (room : List ℕ)
      → InRoom told words at a m (refused_by x) (line_rules b list) y room
  list_not_found {told = told} y room =
      let refusal = list_refused usable took (told y) in
      refused_in refusal.kept (rule_said x (told y) refusal.says) y room
