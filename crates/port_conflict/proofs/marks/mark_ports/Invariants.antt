use Rattle.port_conflict.proofs.Marking.{MarkedUpto}
use Rattle.port_conflict.proofs.marks.mark_ports.Given as goal

abbrev pub invariant-loop-i : goal.invariant-loop-i
invariant-loop-i g l = MarkedUpto l.initial.area l.area l.marks l.p (g.E.Entries.entries l.ports) l.i
