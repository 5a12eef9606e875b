use Rattle.std.proofs.Common.{◌≡◌}
use Rattle.paper.specs.Map.{first_port}
use Rattle.stepmap.proofs.ports.first_port.Given as goal

abbrev pub invariant-loop-u : goal.invariant-loop-u
invariant-loop-u l = l.p ≡ first_port l.b l.u
