use Rattle.stepmap.proofs.LinkPass.{Passed}
use Rattle.stepmap.proofs.links.check_links.Given as goal

abbrev pub invariant-loop-k : goal.invariant-loop-k
invariant-loop-k l = Passed l.b l.k l.marks
