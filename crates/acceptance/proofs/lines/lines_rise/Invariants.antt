use Rattle.agreement.specs.Tables.{Rise}
use Rattle.acceptance.proofs.lines.lines_rise.Given as goal

abbrev pub invariant-loop-x : goal.invariant-loop-x
invariant-loop-x l = Rise l.area l.at l.x
