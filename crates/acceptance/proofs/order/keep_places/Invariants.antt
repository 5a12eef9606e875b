use Rattle.acceptance.specs.Places.{KeptUpto}
use Rattle.acceptance.proofs.order.keep_places.Given as goal

abbrev pub invariant-loop-i : goal.invariant-loop-i
invariant-loop-i l = KeptUpto l.order l.i l.places
