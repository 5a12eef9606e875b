-- The view of a port's lines from its opening: a refusal passed up, 14, or the word that the lines start at and their count; and the part of the
-- area that it is. Rests on Calling and LineCalls.
use Prim.Native.Nat.{ℕ, ◌+◌, ◌≤◌, ◌<◌}
use mathlib.Core.Path.{◌≡◌, refl, sym, ap, ap₂, ◌∙◌}
use mathlib.Core.List.{List, [], ◌∷◌}
use lib.Seq.{slice}
use Rattle.paper.specs.Map.{P}
use Rattle.paper.specs.Ports.{line_count_at, view_start}
use Rattle.paper.specs.Refusals.{Ruling, Answer, answer, answered, refused, decide}
use Rattle.paper.specs.Calls.{Left, call, opening, area_after, port_rule, view_at, part_at, view_of_port}
use Rattle.refusals.specs.Said.{refused_by, answer_of}
use Rattle.refusals.specs.declared.Refusal.{Refusal}
use Rattle.opening.specs.Opened.{OpenLeft, layout_of}
use Rattle.std.specs.Prelude.{Result, Ok, Err}
use Rattle.opening.proofs.Using.{usable-before}
use Rattle.tables.specs.declared.Layout.{Layout}
use Rattle.calling.proofs.Calling.{refused_call, answered_still}
use Rattle.calling.proofs.LineCalls.{unknown_port_lem, known-port}

-- nothing is written, so the area is what a call leaves of itself, and the answer is all there is
pub opened : (b a : List ℕ) (o : Result Layout Refusal) → answer_of o ≡ answer (decide (opening b a)) (layout_of b) → OpenLeft b a o (area_after b a)
opened b a o said = record { said = said; left = refl }

module _ (b a : List ℕ) (q : ℕ) where
  rules : List Ruling
  rules = port_rule b q

  view : ℕ × ℕ
  view = (view_start b a q, line_count_at b q)

  answers : {x : Answer (ℕ × ℕ)} {m : List ℕ} → record { answer = x; area = m } ≡ call b a rules view → x ≡ view_at b a q
  unfolding view_at call rules view
  answers e = ap (λ (left : Left (ℕ × ℕ)). left.answer) e

module _ {b a : List ℕ} {x : Refusal} (known : OpenLeft b a (Err x) (area_after b a)) (q : ℕ) where
  pub view_refused : refused_by x ≡ view_at b a q
  view_refused = answers b a q (refused_call known (rules b a q) (view b a q))

  -- .. which is a part of no words
  pub part_refused : part_at (view_at b a q) ≡ (0, 0)
  unfolding part_at
  part_refused = sym (ap part_at view_refused)

pub part_of_none : {b a : List ℕ} (o : Result Layout Refusal) → ((at : Layout) → o ≡ Ok at → ⊥) → OpenLeft b a o (area_after b a) → (q : ℕ)
    → part_at (view_at b a q) ≡ (0, 0)
part_of_none (Ok at) h known q = absurd (h at refl)
part_of_none (Err x) h known q = part_refused known q

module _ {b a : List ℕ} {at : Layout} (known : OpenLeft b a (Ok at) (area_after b a)) (q : ℕ) where
  ports : P b ≡ at.sizes.ports
  ports = (usable-before known).read.ports

  pub view_unknown : at.sizes.ports ≤ q → refused 14 0 ≡ view_at b a q
  unfolding answer decide rules
  view_unknown h =
      answers b a q (answered_still known (rules b a q) (view b a q) (ap (λ (u : Ruling). answer (decide (u ∷ [])) (view b a q)) (unknown_port_lem b ports q h)))

  pub view_answered : q < at.sizes.ports → {first count : ℕ} → first ≡ view_start b a q → count ≡ line_count_at b q → answered (first, count) ≡ view_at b a q
  unfolding answer decide rules view
  view_answered h e f =
      answers b a q (
      answered_still known (rules b a q) (view b a q) (
      ap₂ (λ (x y : ℕ). answered (x, y)) e f
      ∙ ap (λ (u : Ruling). answer (decide (u ∷ [])) (view b a q)) (known-port b ports q h)
      )
      )

  pub part_unknown : at.sizes.ports ≤ q → part_at (view_at b a q) ≡ (0, 0)
  unfolding part_at
  part_unknown h = sym (ap part_at (view_unknown h))

  pub part_answered : q < at.sizes.ports → part_at (view_at b a q) ≡ (view_start b a q, line_count_at b q)
  unfolding part_at
  part_answered h = sym (ap part_at (view_answered h refl refl))

-- .. so its words and its place are known
module _ (b a : List ℕ) (q : ℕ) {f c : ℕ} (is : part_at (view_at b a q) ≡ (f, c)) where
  pub view_words : slice f (f + c) a ≡ view_of_port b a q
  unfolding view_of_port
  view_words = sym (ap (λ (part : ℕ × ℕ). slice part.0 (part.0 + part.1) a) is)

  pub view-place : (part_at (view_at b a q)).0 ≡ f
  view-place = ap (λ (part : ℕ × ℕ). part.0) is
