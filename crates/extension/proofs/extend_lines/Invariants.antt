use Rattle.extension.proofs.Going.{Going}
use Rattle.extension.proofs.extend_lines.Given as goal

abbrev pub invariant-loop-x : goal.invariant-loop-x
invariant-loop-x l = Going l.b l.area l.at l.slots l.lines l.initial.room l.count l.pos l.room l.made l.x-index
