use Rattle.std.proofs.Common.{map, ◌≡◌}
use lib.Seq.{sets}
use Rattle.lists.specs.Lists.{upto}
use Rattle.paper.specs.Map.{first_port}
use Rattle.stepmap.proofs.ports.first_ports.Given as goal

abbrev pub invariant-loop-v : goal.invariant-loop-v
invariant-loop-v l = (l.p ≡ first_port l.b l.v) × (l.firsts ≡ sets l.initial.firsts 0 (map (first_port l.b) (upto l.v)))
