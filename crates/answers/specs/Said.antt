-- What the calls' answers say: 01's number and values for each case, 02's for the path.
-- Rests on paper's Calls and Path, and on refusals' Said.
use Rattle.std.specs.Prelude.{ℕ, Bool, true, false, Option, Some, None, Result, Ok, Err}
use Rattle.paper.specs.Calls.{Written, wrote, found_apart}
use Rattle.paper.specs.Intervals.{Reply}
use Rattle.paper.specs.Path.{Shown, steps, no_steps}
use Rattle.paper.specs.Refusals.{Answer, answered}
use Rattle.refusals.specs.Said.{refused_by}
use Rattle.refusals.specs.declared.Refusal.{Refusal}
use Rattle.answers.specs.declared.Verdict.{Verdict}
use Rattle.answers.specs.declared.Verdict.TheVariants.{Yes, No}

-- the walk's answer, with its count
abbrev pub verdict_said : Verdict → Reply × ℕ
verdict_said (Yes c) = (Reply.Yes, c)
verdict_said (No c) = (Reply.No, c)

-- the line check and the check by records
abbrev pub line_said : Result Verdict Refusal → Answer (Reply × ℕ)
line_said (Ok v) = answered (verdict_said v)
line_said (Err x) = refused_by x

-- whether the list is convex
abbrev pub reply_said : Bool → Reply
reply_said true = Reply.Yes
reply_said false = Reply.No

-- the order check
abbrev pub topo_said : Result Bool Refusal → Answer Reply
topo_said (Ok convex) = answered (reply_said convex)
topo_said (Err x) = refused_by x

-- intervals and extending: how many records were written, or that there are none to write
abbrev pub written_said : Result (Option ℕ) Refusal → Answer Written
written_said (Ok (Some n)) = answered (wrote n)
written_said (Ok None) = answered found_apart
written_said (Err x) = refused_by x

-- the path: how many steps it has, or that there is none
abbrev pub path_said : Result (Option ℕ) Refusal → Answer Shown
path_said (Ok (Some n)) = answered (steps n)
path_said (Ok None) = answered no_steps
path_said (Err x) = refused_by x
