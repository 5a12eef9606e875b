use Rattle.std.proofs.Common.{take, ◌-◌, ◌≡◌}
use Rattle.line_lists.specs.Columns.{row_in}
use Rattle.line_lists.specs.Pushing.{row_pushed}
use Rattle.line_lists.proofs.push_node.Given as goal

abbrev pub invariant-loop-e : goal.invariant-loop-e
invariant-loop-e l = l.area ≡ row_pushed l.initial.area l.cursors l.nodes l.v (take (l.e - l.start) (row_in l.initial.area l.node_starts l.lines l.v))
