use Rattle.back_path.proofs.Searching.{Searching}
use Rattle.back_path.proofs.writing.step_before.Given as goal

abbrev pub invariant-loop-i : goal.invariant-loop-i
invariant-loop-i l = Searching l.b l.area l.back.queue l.d l.v l.i l.least
