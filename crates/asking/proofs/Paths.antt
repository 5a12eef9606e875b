-- What `why` says of a list: there is room for every path, so that 11 never comes and the words hold its steps.
-- Rests on Areas, path_theory (how long a path can be) and text's Printed.
use Prim.Native.Nat.{ℕ, ◌≤◌, ◌<◌}
use native.Mathlib.Omega.{arith}
use mathlib.Core.Path.{◌≡◌, refl, sym, ap, ap₂, ◌∙◌}
use mathlib.Core.List.{List, [], ◌∷◌, ◌++◌, append_assoc}
use lib.ListN.{length}
use lib.Seq.{sets}
use Rattle.lists.proofs.Sections.{part-sets_in}
use Rattle.paper.specs.Refusals.{Ruling, passed, refusal, rule11, decide, Answer, answered, answer, on_refusal}
use Rattle.paper.specs.Path.{Path, path, no_path, Shown, back_path, steps_of, shown_of}
use Rattle.paper.specs.Calls.{opening, line_rules, call_into, path_answer, show_path}
use Rattle.paper.specs.Text.{show_way, why_says}
use Rattle.stepmap.proofs.Reading.{limits}
use Rattle.convexity_theory.proofs.trust.Rules.{rule11_passes}
use Rattle.convexity_theory.proofs.trust.Agree.{passing-last}
use Rattle.path_theory.proofs.levels.Bounds.{few-steps}
use Rattle.text.specs.Printed.{Put}
use Rattle.asking.specs.Standing.{prepared_area, Standing}
use Rattle.asking.specs.Printed.{Printed}
use Rattle.wording.specs.Shown.{way_in, steps_shown}
use Rattle.asking.proofs.Areas.{path_asked}
use Rattle.asking.proofs.Texts.{shown_as}

-- ---- what is said of a path that has room, and written

module _ (buffer : List ℕ) (found : Path) (fits : length (steps_of found) ≤ length buffer) where
  way_there : (u : Ruling) → way_in (answer u (shown_of found)) (on_refusal u buffer (sets buffer 0 (steps_of found))) ≡ answer u found
  unfolding answer on_refusal steps_of shown_of
  way_there (refusal n p) = refl
  way_there passed = go found fits
    where
      go : (f : Path) → length (steps_of f) ≤ length buffer → way_in (answered (shown_of f)) (sets buffer 0 (steps_of f)) ≡ answered f
      go (path vs) h = ap (λ (steps : List ℕ). answered (path steps)) (part-sets_in buffer 0 vs 0 (omega arith))
      go no_path h = refl

  steps-there : (u : Ruling) → steps_shown (answer u (shown_of found)) ≤ length buffer
  unfolding answer steps_of shown_of
  steps-there (refusal n p) = omega arith
  steps-there passed = go found fits
    where
      go : (f : Path) → length (steps_of f) ≤ length buffer → steps_shown (answered (shown_of f)) ≤ length buffer
      go (path vs) h = h
      go no_path h = omega arith

module _ (b a list buffer : List ℕ) (fits : length (steps_of (back_path b list)) ≤ length buffer) where
  never_11 : decide (opening b a ++ (line_rules b list ++ (rule11 (length buffer) (length (steps_of (back_path b list))) ∷ [])))
      ≡ decide (opening b a ++ line_rules b list)
  unfolding decide
  never_11 =
      ap decide (sym (append_assoc (opening b a) (line_rules b list) (rule11 (length buffer) (length (steps_of (back_path b list))) ∷ [])))
      ∙ passing-last (opening b a ++ line_rules b list) (rule11 (length buffer) (length (steps_of (back_path b list))) ∷ [])
      (ap (λ (u : Ruling). decide (u ∷ [])) ((rule11_passes (length buffer) (length (steps_of (back_path b list)))).1 fits))

  way_answered : way_in (show_path b a list buffer).answer (show_path b a list buffer).buffer ≡ path_answer b a list
  unfolding show_path call_into path_answer
  way_answered =
      ap (λ (u : Ruling). way_in (answer u (shown_of (back_path b list))) (on_refusal u buffer (sets buffer 0 (steps_of (back_path b list))))) never_11
      ∙ way_there buffer (back_path b list) fits (decide (opening b a ++ line_rules b list))

  steps_answered : steps_shown (show_path b a list buffer).answer ≤ length buffer
  unfolding show_path call_into
  steps_answered =
      steps-there buffer (back_path b list) fits
      (decide (opening b a ++ (line_rules b list ++ (rule11 (length buffer) (length (steps_of (back_path b list))) ∷ []))))

-- ---- the call, by the equation of its contract

module _ {b a : List ℕ} (standing : Standing b a) (list buffer : List ℕ) {m words : List ℕ} {x : Answer Shown} (room : length buffer ≡ 514)
    (shown : record { answer = x; area = m; buffer = words } ≡ show_path b a list buffer) where
  -- 512 steps outside the list and the two ends
  enough : length (steps_of (back_path b list)) ≤ length buffer
  enough = omega (arith, few-steps b list, (limits b standing.trusted.accepted_map.limited).0.0, room)

  asked : (x ≡ (show_path b (prepared_area b) list buffer).answer) × ((words ≡ (show_path b (prepared_area b) list buffer).buffer) × Standing b m)
  asked = path_asked standing list buffer shown

  pub steps-within : steps_shown x ≤ 514
  steps-within = omega (arith, ap steps_shown asked.0, steps_answered b (prepared_area b) list buffer enough, room)

  pub way_said : {before after : List ℕ} {end : ℕ} → Put before 0 (show_way (way_in x words)) after end → end < length before
      → Printed b m (why_says b (prepared_area b) list) before after end
  unfolding why_says
  way_said put short =
      let way-is = ap₂ way_in asked.0 asked.1.0 ∙ way_answered b (prepared_area b) list buffer enough in
      record { shown = shown_as (ap show_way (sym way-is)) put (omega (arith, put.ends)); standing = asked.1.1 }
