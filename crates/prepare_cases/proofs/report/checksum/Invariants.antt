use Rattle.std.proofs.Common.{◌<◌}
use Rattle.prepare_cases.proofs.report.checksum.Given as goal

abbrev pub invariant-loop-word : goal.invariant-loop-word
invariant-loop-word l = l.sum < 4294967291
