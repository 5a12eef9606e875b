use Rattle.std.proofs.Common.{map, ◌≡◌}
use Rattle.std.proofs.lemmas.List.Edits.{sets}
use Rattle.lists.specs.Lists.{upto}
use Rattle.paper.specs.Map.{link_to}
use Rattle.neighbours.proofs.keys.target_nodes.Given as goal

abbrev pub invariant-loop-k : goal.invariant-loop-k
invariant-loop-k l = l.area ≡ sets l.initial.area l.at.keys (map (link_to l.b) (upto l.k))
