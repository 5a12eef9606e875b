use Rattle.std.proofs.Common.{◌≡◌}
use Rattle.line_tables.specs.Steps.{pushed_after}
use Rattle.line_tables.proofs.frontier.push_lines.Given as goal

abbrev pub invariant-loop-pushed : goal.invariant-loop-pushed
invariant-loop-pushed l = l.area ≡ pushed_after l.initial.area l.room l.first l.list l.pushed
