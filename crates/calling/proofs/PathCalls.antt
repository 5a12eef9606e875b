-- Showing the path, from the opening's answer and from the path on the opened area.
-- Rests on Calling.
use Prim.Native.Nat.{ℕ}
use mathlib.Core.Path.{◌≡◌}
use mathlib.Core.List.{List, [], ◌∷◌, ◌++◌}
use lib.ListN.{length}
use Rattle.paper.specs.Path.{Shown, back_path, steps_of, shown_of}
use Rattle.paper.specs.Refusals.{rule11, Answer}
use Rattle.paper.specs.Calls.{call_into, line_rules, show_path}
use Rattle.refusals.specs.Said.{refused_by}
use Rattle.refusals.specs.declared.Refusal.{Refusal}
use Rattle.opening.specs.Opened.{OpenLeft, scratch_zeroed}
use Rattle.std.specs.Prelude.{Ok, Err}
use Rattle.tables.specs.declared.Layout.{Layout}
use Rattle.tables.specs.Answered.{AnsweredInto}
use Rattle.calling.proofs.Calling.{refused_into, answered_into, same_outcomes_so}

module _ {b a : List ℕ} {x : Refusal} {m : List ℕ} (known : OpenLeft b a (Err x) m) where
  pub path_refused : (list buffer : List ℕ) → record { answer = refused_by x; area = m; buffer = buffer } ≡ show_path b a list buffer
  unfolding show_path
  path_refused list buffer = refused_into known _ _ buffer _

module _ {b a : List ℕ} {at : Layout} {m : List ℕ} (known : OpenLeft b a (Ok at) m) {z exit : List ℕ} (cleared : exit ≡ scratch_zeroed z at) where
  pub path_answered : {x : Answer Shown} (list : List ℕ) {buffer after : List ℕ}
      → AnsweredInto at m z x (line_rules b list ++ (rule11 (length buffer) (length (steps_of (back_path b list))) ∷ [])) (shown_of (back_path b list)) buffer after
      (steps_of (back_path b list))
      → record { answer = x; area = exit; buffer = after } ≡ show_path b a list buffer
  unfolding show_path call_into
  path_answered list {buffer} asked = answered_into known asked cleared _ _ (steps_of (back_path b list)) ((same_outcomes_so known).path_shown list buffer)
