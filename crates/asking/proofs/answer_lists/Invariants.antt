use Rattle.std.proofs.Common.{length, ◌-◌}
use Rattle.std.specs.Io.KnownBytes.{Appends}
use Rattle.asking.specs.Says.{says_of}
use Rattle.asking.proofs.Lines.{SoFar}
use Rattle.asking.proofs.Written.{said}
use Rattle.asking.proofs.answer_lists.Given as goal

-- line i is next, and what is said of the lines before it is written
abbrev pub invariant-loop-at : goal.invariant-loop-at
invariant-loop-at g l =
    SoFar l.map l.input l.area l.at l.i
    × Appends (g.W.Write.contents l.initial.writer) (g.W.Write.contents l.writer) (said (says_of l.program) l.map l.input l.i)

abbrev pub decreases-loop-at : goal.decreases-loop-at
decreases-loop-at g l = length l.initial.input - l.at
