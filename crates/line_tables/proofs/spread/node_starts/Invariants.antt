use Rattle.std.proofs.Common.{map, ◌≡◌}
use Rattle.line_tables.specs.Widths.{widths_before}
use Rattle.lists.specs.Lists.{upto}
use Rattle.std.proofs.lemmas.List.Edits.{sets}
use Rattle.line_tables.proofs.spread.node_starts.Given as goal

abbrev pub invariant-loop-v : goal.invariant-loop-v
invariant-loop-v l = (l.total ≡ widths_before l.initial.area l.links l.outs l.v) × (l.area ≡ sets l.initial.area l.into (map (widths_before l.initial.area l.links l.outs) (upto l.v)))
