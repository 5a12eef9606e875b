-- The walk's answer tells its cases apart, so that two admissible answers coincide.
-- Rests on answers' Said.
use Prim.Native.Nat.{ℕ}
use mathlib.Core.Path.{◌≡◌, refl, sym, ap, ◌∙◌}
use Rattle.paper.specs.Intervals.{Reply}
use Rattle.answers.specs.Said.{verdict_said}
use Rattle.answers.specs.declared.Verdict.{Verdict}
use Rattle.answers.specs.declared.Verdict.TheVariants.{Yes, No}

meant : Reply × ℕ → Verdict
meant (Reply.Yes, counted) = Yes counted
meant (Reply.No, counted) = No counted

back : (r : Verdict) → meant (verdict_said r) ≡ r
unfolding meant
back (Yes counted) = refl
back (No counted) = refl

pub verdict_said_injective : (r s : Verdict) → verdict_said r ≡ verdict_said s → r ≡ s
verdict_said_injective r s e = sym (back r) ∙ ap meant e ∙ back s
