use Rattle.std.proofs.Common.{drop, ◌≡◌, ◌≤◌}
use Rattle.text.specs.Numbers.{read_on}
use Rattle.text.proofs.reader.value_of.Given as goal

abbrev pub invariant-loop-x : goal.invariant-loop-x
invariant-loop-x l = (l.value ≤ 65535) × (read_on 0 l.text ≡ read_on l.value (drop l.x-index l.text))
