-- Each answer's meaning tells its cases apart, so that two admissible answers coincide. What `answer_of` tells is in refusals' Answers.
-- Rests on Said and refusals' Answers.
use Prim.Native.Nat.{ℕ}
use mathlib.Core.Path.{◌≡◌, refl, sym, ap, ◌∙◌}
use Rattle.std.specs.Prelude.{Bool, true, false, Option, Some, None, Result, Ok, Err}
use Rattle.paper.specs.Calls.{Written, wrote, found_apart}
use Rattle.paper.specs.Intervals.{Reply}
use Rattle.paper.specs.Path.{Shown, steps, no_steps}
use Rattle.paper.specs.Refusals.{Answer, refused, answered, refusal}
use Rattle.refusals.specs.declared.Refusal.{Refusal}
use Rattle.refusals.proofs.Answers.{meant, meant_back}
use Rattle.answers.specs.Said.{line_said, topo_said, written_said, path_said}
use Rattle.answers.specs.declared.Verdict.{Verdict}
use Rattle.answers.specs.declared.Verdict.TheVariants.{Yes, No}

-- what has a way back tells apart
module _ {A B : Type 0} (says : A → B) (means : B → A) (back : (r : A) → means (says r) ≡ r) where
  apart : (r s : A) → says r ≡ says s → r ≡ s
  apart r s e = sym (back r) ∙ ap means e ∙ back s

-- ---- the line check and the check by records

line_meant : Answer (Reply × ℕ) → Result Verdict Refusal
line_meant (answered (Reply.Yes, c)) = Ok (Yes c)
line_meant (answered (Reply.No, c)) = Ok (No c)
line_meant (refused i v) = Err (meant (refusal i v))

line-back : (r : Result Verdict Refusal) → line_meant (line_said r) ≡ r
unfolding line_meant
line-back (Ok (Yes c)) = refl
line-back (Ok (No c)) = refl
line-back (Err x) = ap (λ (y : Refusal). Err y) (meant_back x)

pub line_said_injective : (r s : Result Verdict Refusal) → line_said r ≡ line_said s → r ≡ s
line_said_injective = apart line_said line_meant line-back

-- ---- the order check

topo_meant : Answer Reply → Result Bool Refusal
topo_meant (answered Reply.Yes) = Ok true
topo_meant (answered Reply.No) = Ok false
topo_meant (refused i v) = Err (meant (refusal i v))

topo_back : (r : Result Bool Refusal) → topo_meant (topo_said r) ≡ r
unfolding topo_meant
topo_back (Ok true) = refl
topo_back (Ok false) = refl
topo_back (Err x) = ap (λ (y : Refusal). Err y) (meant_back x)

pub topo_said_injective : (r s : Result Bool Refusal) → topo_said r ≡ topo_said s → r ≡ s
topo_said_injective = apart topo_said topo_meant topo_back

-- ---- intervals and extending

written_meant : Answer Written → Result (Option ℕ) Refusal
written_meant (answered (wrote n)) = Ok (Some n)
written_meant (answered found_apart) = Ok None
written_meant (refused i v) = Err (meant (refusal i v))

written-back : (r : Result (Option ℕ) Refusal) → written_meant (written_said r) ≡ r
unfolding written_meant
written-back (Ok (Some n)) = refl
written-back (Ok None) = refl
written-back (Err x) = ap (λ (y : Refusal). Err y) (meant_back x)

pub written_said_injective : (r s : Result (Option ℕ) Refusal) → written_said r ≡ written_said s → r ≡ s
written_said_injective = apart written_said written_meant written-back

-- ---- the path

path_meant : Answer Shown → Result (Option ℕ) Refusal
path_meant (answered (steps n)) = Ok (Some n)
path_meant (answered no_steps) = Ok None
path_meant (refused i v) = Err (meant (refusal i v))

path-back : (r : Result (Option ℕ) Refusal) → path_meant (path_said r) ≡ r
unfolding path_meant
path-back (Ok (Some n)) = refl
path-back (Ok None) = refl
path-back (Err x) = ap (λ (y : Refusal). Err y) (meant_back x)

pub path_said_injective : (r s : Result (Option ℕ) Refusal) → path_said r ≡ path_said s → r ≡ s
path_said_injective = apart path_said path_meant path-back
