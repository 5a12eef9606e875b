use Rattle.std.proofs.Common.{map, ◌≡◌}
use Rattle.line_tables.specs.Widths.{links_from}
use Rattle.lists.specs.Lists.{upto}
use Rattle.std.proofs.lemmas.List.Edits.{sets}
use Rattle.line_tables.proofs.spread.out_starts.Given as goal

abbrev pub invariant-loop-v : goal.invariant-loop-v
invariant-loop-v l = l.area ≡ sets l.initial.area l.into (map (links_from l.initial.area l.links) (upto l.v))
