use Rattle.std.proofs.Common.{◌-◌}
use Rattle.std.proofs.Common.{◌-◌}
use Rattle.lookup.specs.Line.{Bracketed}
use Rattle.lookup.proofs.find_between.Given as goal

abbrev pub invariant-loop-low : goal.invariant-loop-low
invariant-loop-low l = Bracketed l.nodes l.positions l.pos l.low l.high

abbrev pub decreases-loop-low : goal.decreases-loop-low
decreases-loop-low l = l.high - l.low
