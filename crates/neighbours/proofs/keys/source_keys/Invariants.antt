use Rattle.std.proofs.Common.{map, ◌≡◌}
use Rattle.std.proofs.lemmas.List.Edits.{sets}
use Rattle.lists.specs.Lists.{upto}
use Rattle.paper.specs.Map.{source_port}
use Rattle.neighbours.proofs.keys.source_keys.Given as goal

abbrev pub invariant-loop-k : goal.invariant-loop-k
invariant-loop-k l = l.area ≡ sets l.initial.area l.at.keys (map (source_port l.b) (upto l.k))
