use Rattle.std.proofs.Common.{true, ℕ, ◌<◌, ◌≡◌}
use Rattle.stepmap.specs.Formed.{few_ports}
use Rattle.stepmap.proofs.read.degrees_within.Given as goal

abbrev pub invariant-loop-v : goal.invariant-loop-v
invariant-loop-v l = (i : ℕ) → i < l.v → few_ports l.b i ≡ true
