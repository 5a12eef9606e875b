use Rattle.std.proofs.Common.{map, ◌≡◌}
use Rattle.std.proofs.lemmas.List.Edits.{sets}
use Rattle.lists.specs.Lists.{upto}
use Rattle.paper.specs.Map.{target_port}
use Rattle.neighbours.proofs.keys.target_keys.Given as goal

abbrev pub invariant-loop-k : goal.invariant-loop-k
invariant-loop-k l = l.area ≡ sets l.initial.area l.at.keys (map (target_port l.b) (upto l.k))
