use Rattle.std.proofs.Common.{get_or, leb}
use Rattle.take_in.proofs.Search.{Clean}
use Rattle.take_in.proofs.first_unknown.Given as goal

abbrev pub invariant-loop-i : goal.invariant-loop-i
invariant-loop-i g l = Clean (λ j. leb l.n (get_or (g.E.Entries.entries l.list) j 0)) l.i
