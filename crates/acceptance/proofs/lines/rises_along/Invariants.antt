use Rattle.std.proofs.Common.{get_or}
use Rattle.acceptance.proofs.Rises.{RisesUpto}
use Rattle.acceptance.proofs.lines.rises_along.Given as goal

abbrev pub invariant-loop-i : goal.invariant-loop-i
invariant-loop-i l = RisesUpto (λ v. get_or l.positions v 0) l.line l.i
