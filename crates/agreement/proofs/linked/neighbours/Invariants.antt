use Rattle.std.proofs.Common.{◌≡◌}
use lib.Seq.{sets}
use Rattle.agreement.specs.Lists.{fronts, backs}
use Rattle.agreement.proofs.linked.neighbours.Given as goal

abbrev pub invariant-loop-x : goal.invariant-loop-x
invariant-loop-x l = (l.froms ≡ sets l.initial.froms 0 (fronts l.area l.at l.x)) × (l.tos ≡ sets l.initial.tos 0 (backs l.area l.at l.x))
