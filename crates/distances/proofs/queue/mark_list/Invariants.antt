use Rattle.distances.specs.Met.{Listed}
use Rattle.distances.proofs.Marking.{Marking}
use Rattle.distances.proofs.queue.mark_list.Given as goal

abbrev pub invariant-loop-i : goal.invariant-loop-i
invariant-loop-i l = Listed l.initial.area l.fn.queue l.count × Marking l.initial.area l.fn.queue l.i l.area
