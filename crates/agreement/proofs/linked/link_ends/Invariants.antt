use Rattle.std.proofs.Common.{◌≡◌}
use lib.Seq.{sets}
use Rattle.agreement.specs.Lists.{sources, targets}
use Rattle.agreement.proofs.linked.link_ends.Given as goal

abbrev pub invariant-loop-k : goal.invariant-loop-k
invariant-loop-k l = (l.froms ≡ sets l.initial.froms 0 (sources l.b l.k)) × (l.tos ≡ sets l.initial.tos 0 (targets l.b l.k))
