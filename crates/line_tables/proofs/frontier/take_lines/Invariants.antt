use Rattle.std.proofs.Common.{◌≡◌}
use Rattle.line_tables.specs.Steps.{taken_after, position_after}
use Rattle.line_tables.proofs.frontier.take_lines.Given as goal

abbrev pub invariant-loop-taken : goal.invariant-loop-taken
invariant-loop-taken l = (l.position ≡ position_after l.b l.initial.area l.at l.room l.first l.list l.taken) × (l.area ≡ taken_after l.initial.area l.room l.first l.list l.taken)
