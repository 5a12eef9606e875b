use Rattle.port_conflict.proofs.Passing.{Passing}
use Rattle.port_conflict.proofs.links.first_links_meet.Given as goal

abbrev pub invariant-loop-k : goal.invariant-loop-k
invariant-loop-k l = Passing l.b l.initial.area l.area l.at l.room l.k
