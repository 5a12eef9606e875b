use Rattle.std.proofs.Common.{length, ◌-◌, ◌≤◌}
use Rattle.program_cases.proofs.run_lines.Given as goal

-- the place is within the list, and every line moves it on
abbrev pub invariant-loop-at : goal.invariant-loop-at
invariant-loop-at g l = l.at ≤ length l.list

abbrev pub decreases-loop-at : goal.decreases-loop-at
decreases-loop-at g l = length l.list - l.at
