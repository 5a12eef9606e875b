use Rattle.take_in.proofs.Each.{EachTo}
use Rattle.take_in.proofs.take_each.Given as goal

abbrev pub invariant-loop-i : goal.invariant-loop-i
invariant-loop-i g l = EachTo l.n (g.E.Entries.entries l.list) l.initial.area l.at l.i l.area
