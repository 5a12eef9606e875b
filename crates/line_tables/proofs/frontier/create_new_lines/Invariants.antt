use Rattle.std.proofs.Common.{◌≡◌}
use Rattle.lists.specs.Lists.{from}
use Rattle.std.proofs.lemmas.List.Edits.{sets}
use Rattle.line_tables.proofs.frontier.create_new_lines.Given as goal

abbrev pub invariant-loop-made : goal.invariant-loop-made
invariant-loop-made l = l.area ≡ sets l.initial.area l.at (from l.first l.made)
