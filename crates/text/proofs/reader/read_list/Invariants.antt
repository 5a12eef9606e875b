use Rattle.std.proofs.Common.{length, ◌+◌, ◌-◌, ◌≡◌}
use Rattle.text.proofs.Lists.{SoFar}
use Rattle.text.proofs.reader.read_list.Given as goal

abbrev pub invariant-loop-cursor : goal.invariant-loop-cursor
invariant-loop-cursor l = (length l.list ≡ length l.initial.list) × SoFar l.line l.initial.list l.list l.cursor.at l.count

abbrev pub decreases-loop-cursor : goal.decreases-loop-cursor
decreases-loop-cursor l = length l.line + 2 - l.cursor.at
