use Rattle.std.proofs.Common.{◌≡◌}
use Rattle.line_tables.specs.Frontier.{frontier_at, Turned}
use Rattle.line_tables.specs.Spread.{Over}
use Rattle.line_tables.proofs.nodes.place_nodes.Given as goal

abbrev pub invariant-loop-t : goal.invariant-loop-t
invariant-loop-t l = (l.n_lines ≡ (frontier_at l.b l.t).count) × Over l.b l.at l.room l.initial.area l.area × Turned l.b l.area l.at l.room l.t
