use Rattle.std.proofs.Common.{◌≡◌}
use lib.Seq.{sets}
use Rattle.agreement.specs.Lists.{line_numbers}
use Rattle.agreement.proofs.listed.line_numbers.Given as goal

abbrev pub invariant-loop-x : goal.invariant-loop-x
invariant-loop-x l = l.numbers ≡ sets l.initial.numbers 0 (line_numbers l.area l.at l.x)
