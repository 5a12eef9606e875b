-- Preparing from the ordering's answer: a refusal is passed up with its area, and else 1 to 6 passed and the lines are laid.
-- Rests on refusals' Rulings and FromOrder.
use Prim.Native.Nat.{ℕ}
use mathlib.Core.Path.{◌≡◌, refl, sym, ap, ap₂, ◌∙◌}
use mathlib.Core.Logic.{◌≢◌}
use mathlib.Core.List.{List, [], ◌∷◌, ◌++◌}
use Rattle.paper.specs.Lines.{tables}
use Rattle.paper.specs.Area.{cleared, prepared}
use Rattle.paper.specs.Refusals.{Ruling, passed, refusal, Answer, answer, answered, on_refusal, decide, rule45, rule6}
use Rattle.paper.specs.Calls.{Left, untouched, unprepared, prepare}
use Rattle.toposort.specs.declared.ordering.Ordered.{Ordered}
use Rattle.std.specs.Prelude.{Ok, Err}
use Rattle.toposort.specs.Laid.{OrderLeft}
use Rattle.toposort.proofs.Refusing.{passed-said, passed-kept}
use Rattle.line_tables.specs.Laying.{Laying}
use Rattle.line_tables.specs.Room.{room_of}
use Rattle.refusals.specs.Said.{refused_by}
use Rattle.refusals.specs.declared.Refusal.{Refusal}
use Rattle.refusals.proofs.Rulings.{no_refusal, head_passed, both_passed}
use Rattle.convex.proofs.FromOrder.{laying, prepared_over}

-- an answer and the area's words, as a call leaves them
same_left : {x y : Answer ℕ} {m o : List ℕ} → x ≡ y → m ≡ o → ◌≡◌ {A = Left ℕ} (record { answer = x; area = m }) (record { answer = y; area = o })
same_left e f = ap₂ (λ (x : Answer ℕ) (m : List ℕ). record { answer = x; area = m }) e f

-- after a refusal, what preparing would else have left does not matter
left_over : {A : Type 0} (us vs : List Ruling) → decide (us ++ vs) ≢ passed → (x y m : A)
    → on_refusal (decide us) x y ≡ on_refusal (decide us) x (on_refusal (decide vs) y m)
unfolding decide on_refusal
left_over [] vs ne x y m = go (decide vs) ne
  where
    go : (u : Ruling) → u ≢ passed → y ≡ on_refusal u y m
    go passed ne = absurd (ne refl)
    go (refusal n v) ne = refl
left_over (passed ∷ us) vs ne x y m = left_over us vs ne x y m
left_over (refusal n v ∷ us) vs ne x y m = refl

-- ---- a refusal

pub refused_up : (b a : List ℕ) {x : Refusal} {m : List ℕ} → OrderLeft b a (Err x) m → record { answer = refused_by x; area = m } ≡ prepare b a
unfolding prepare answer
refused_up b a {x} known =
    same_left (ap (λ (u : Ruling). answer u (tables b).count) known.said)
    (known.lies ∙ left_over (untouched b a) (unprepared b) (λ q. no_refusal (sym (known.said ∙ q))) a (cleared b a) (prepared b a))

-- ---- an order

module _ (b a : List ℕ) {o : Ordered} {m : List ℕ} (known : OrderLeft b a (Ok o) m) where
  all-passed : (passed ≡ decide (untouched b a)) × (passed ≡ decide (unprepared b))
  all-passed = both_passed (untouched b a) (unprepared b) known.said

  no_cycle : rule6 b ≡ passed
  unfolding unprepared
  no_cycle = sym (head_passed (rule6 b) [] (head_passed (rule45 b) (rule6 b ∷ []) all-passed.1).1).0

  pub lines-ready : Laying b m o.at (room_of o.at)
  lines-ready = laying a known.lies no_cycle

  pub lines-laid : {k : ℕ} {z : List ℕ} → k ≡ (tables b).count → z ≡ prepared b m → record { answer = answered k; area = z } ≡ prepare b a
  unfolding prepare
  lines-laid e f =
      same_left (ap (λ (k : ℕ). answered k) e ∙ passed-said known.said (tables b).count)
      (passed-kept all-passed.0 a (passed-kept all-passed.1 (cleared b a) (prepared_over a known.lies no_cycle f)))
