use Rattle.std.proofs.Common.{◌<◌, ◌≡◌}
use Rattle.prepare_cases.specs.Number.{value_after}
use Rattle.prepare_cases.proofs.list.number.Given as goal

-- after i digits the value is that of the first i
abbrev pub invariant-loop-x : goal.invariant-loop-x
invariant-loop-x l = (l.value < 65536) × (l.value ≡ value_after l.word l.x-index)
