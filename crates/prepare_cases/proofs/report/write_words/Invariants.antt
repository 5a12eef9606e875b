use Rattle.std.proofs.Common.{length, ◌-◌, ◌≤◌}
use Rattle.prepare_cases.proofs.report.write_words.Given as goal

-- the place is within the words
abbrev pub invariant-loop-at : goal.invariant-loop-at
invariant-loop-at g l = l.at ≤ length l.words

abbrev pub decreases-loop-at : goal.decreases-loop-at
decreases-loop-at g l = length l.words - l.at
