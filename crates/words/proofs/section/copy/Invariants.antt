use Rattle.std.proofs.Common.{◌≡◌}
use lib.Seq.{sets}
use Rattle.lists.proofs.Sections.{part}
use Rattle.words.proofs.section.copy.Given as goal

abbrev pub invariant-loop-i : goal.invariant-loop-i
invariant-loop-i l = l.area ≡ sets l.initial.area l.dst (part l.initial.area l.src l.i)
