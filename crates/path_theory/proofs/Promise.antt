-- The call keeps its promise, on any accepted tables: the path stands in the room, or is said to need more, and "no path" is said of a convex list alone.
-- Rests on NoPath, path_theory and convexity_theory's Passing.
use Prim.Native.Nat.{ℕ, ◌≤◌, ◌<◌}
use native.Mathlib.Decide.{dec_le}
use native.Mathlib.Omega.{arith}
use borrow.Author.Tests.{lt-ltb}
use mathlib.Core.Path.{◌≡◌, refl, sym, ap, ◌∙◌, subst}
use mathlib.Core.Logic.Iff
use mathlib.Core.Logic.{◌↔◌}
use mathlib.Core.Bool.{Bool}
use mathlib.Core.List.{List, [], ◌∷◌, ◌++◌, append_assoc}
use lib.ListN.{length}
use lib.Seq.{sets}
use Rattle.lists.specs.Found.{placed}
use Rattle.lists.proofs.Sections.{part-sets_in}
use Rattle.paper.specs.Path.{ThePath, Path, path, no_path, back_path, steps_of, Shown, shown_of}
use Rattle.paper.specs.Refusals.{Ruling, passed, refusal, refuse, rule11, decide, answered, answer, on_refusal}
use Rattle.paper.specs.Calls.{opening, call_into, line_rules, path_answer, show_path}
use Rattle.paper.specs.Plain.{Convex}
use Rattle.paper.specs.Promise.{Trusted, StepList, PathPromise, given, none, no_room}
use Rattle.paper.proofs.Promise.{same_answer}
use Rattle.refusals.proofs.Rulings.{then_decides}
use Rattle.convexity_theory.proofs.trust.Rules.{rule11_passes}
use Rattle.convexity_theory.proofs.trust.Passing.{answers, not_refused, trusted-sound, both_pass, line_passes}
use Rattle.path_theory.proofs.levels.Shortest.{the_path}
use Rattle.path_theory.proofs.levels.Only.{exactly_the_path}
use Rattle.path_theory.proofs.NoPath.{no_path_lem}

one_rule : (u : Ruling) → decide (u ∷ []) ≡ u
unfolding decide
one_rule passed = refl
one_rule (refusal n p) = refl

rule11_refuses : (room needed : ℕ) → room < needed → rule11 room needed ≡ refusal 11 needed
unfolding rule11 refuse
rule11_refuses room needed h = ap (λ (t : Bool). refuse 11 (placed t needed)) (lt-ltb room needed h)

-- 11's ruling on what was found
abbrev pub asks : List ℕ → Path → Ruling
asks buffer found = rule11 (length buffer) (length (steps_of found))

-- the promise of what is answered and left by a ruling
abbrev Kept : List ℕ → List ℕ → List ℕ → Path → Ruling → Type 0
Kept b list buffer found u =
    PathPromise b list buffer (on_refusal u buffer (sets buffer 0 (steps_of found))) (answer u (shown_of found))

module _ {b a list : List ℕ} (t : Trusted b a) (s : StepList b list) (buffer : List ℕ) where
  -- where the line check's rules pass, 11 decides
  last_decides : decide (opening b a ++ (line_rules b list ++ (asks buffer (back_path b list) ∷ []))) ≡ asks buffer (back_path b list)
  last_decides =
      ap decide (sym (append_assoc (opening b a) (line_rules b list) (asks buffer (back_path b list) ∷ [])))
      ∙ then_decides (opening b a ++ line_rules b list) (asks buffer (back_path b list) ∷ []) (sym ((line_passes b a list).1 (t, s)))
      ∙ one_rule (asks buffer (back_path b list))

  keeps : (found : Path) → back_path b list ≡ found → Kept b list buffer found (asks buffer found)
  unfolding steps_of shown_of answer on_refusal
  keeps no_path e =
      subst (Kept b list buffer no_path) (sym ((rule11_passes (length buffer) 0).1 (omega arith))) (none ((no_path_lem (trusted-sound t) list).0 e) refl)
  keeps (path vs) e = go (dec_le (length vs) (length buffer))
    where
      it : ThePath b list vs
      it = the_path (trusted-sound t) list e

      go : Dec (length vs ≤ length buffer) → Kept b list buffer (path vs) (asks buffer (path vs))
      go (yes fits) =
          subst (Kept b list buffer (path vs)) (sym ((rule11_passes (length buffer) (length vs)).1 fits))
          (given vs it refl (part-sets_in buffer 0 vs 0 (omega arith)))
      go (no long) =
          let short : length buffer < length vs = omega arith in
          subst (Kept b list buffer (path vs)) (sym (rule11_refuses (length buffer) (length vs) short)) (no_room vs it refl short)

  pub path_promise : PathPromise b list buffer (show_path b a list buffer).buffer (show_path b a list buffer).answer
  unfolding show_path call_into
  path_promise = subst (Kept b list buffer (back_path b list)) (sym last_decides) (keeps (back_path b list) refl)

-- ---- what is answered at all was asked as the promise wants

module _ (b a list buffer : List ℕ) where
  pub path_answered_trusted : {x : Shown} → (show_path b a list buffer).answer ≡ answered x → Trusted b a × StepList b list
  unfolding show_path call_into
  path_answered_trusted e =
      let rules = line_rules b list ++ (asks buffer (back_path b list) ∷ []) in
      let passing = (not_refused (shown_of (back_path b list)) (decide (opening b a ++ rules)) e).0 in
      let parts = (both_pass (opening b a) rules).0 passing in
      (line_passes b a list).0
      ((both_pass (opening b a) (line_rules b list)).1 (parts.0, ((both_pass (line_rules b list) (asks buffer (back_path b list) ∷ [])).0 parts.1).0))

  -- and so the answer keeps the promise, whatever was asked
  pub path_answered_kept : {x : Shown} → (show_path b a list buffer).answer ≡ answered x
      → PathPromise b list buffer (show_path b a list buffer).buffer (answered x)
  path_answered_kept e =
      let p = path_answered_trusted e in
      subst (PathPromise b list buffer (show_path b a list buffer).buffer) e (path_promise p.0 p.1 buffer)

-- ---- the answer that no room limits

module _ {b a list : List ℕ} (t : Trusted b a) (s : StepList b list) where
  said : path_answer b a list ≡ answered (back_path b list)
  unfolding path_answer
  said = answers (back_path b list) ((line_passes b a list).1 (t, s))

  answered_as : (found : Path) → (path_answer b a list ≡ answered found) ↔ (back_path b list ≡ found)
  answered_as found = (λ e. same_answer (sym said ∙ e), λ e. said ∙ ap answered e)

  pub answered_path : (vs : List ℕ) → (path_answer b a list ≡ answered (path vs)) ↔ ThePath b list vs
  answered_path vs = Iff.trans (answered_as (path vs)) (exactly_the_path (trusted-sound t) list vs)

  pub answered_none : (path_answer b a list ≡ answered no_path) ↔ Convex b list
  answered_none = Iff.trans (answered_as no_path) (no_path_lem (trusted-sound t) list)
