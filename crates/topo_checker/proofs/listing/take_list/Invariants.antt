use Rattle.topo_checker.proofs.Taking.{TakenBelow}
use Rattle.topo_checker.proofs.listing.take_list.Given as goal

abbrev pub invariant-loop-i : goal.invariant-loop-i
invariant-loop-i g l = TakenBelow l.initial.area l.at l.room (g.E.Entries.entries l.list) l.i l.area
