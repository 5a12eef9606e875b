use Rattle.std.proofs.Common.{drop, take, ◌≡◌}
use Rattle.line_lists.specs.Columns.{row_in}
use Rattle.line_lists.specs.Pushing.{all_pushed}
use Rattle.line_lists.proofs.push_nodes.Given as goal

abbrev pub invariant-loop-t : goal.invariant-loop-t
invariant-loop-t l = l.area ≡ all_pushed l.initial.area l.cursors l.nodes (row_in l.initial.area l.node_starts l.lines) (take l.t (take l.n (drop l.order l.initial.area)))
