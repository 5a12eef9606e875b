use Rattle.std.proofs.Common.{◌≡◌}
use Rattle.walk.specs.Lows.{lows_laid}
use Rattle.walk.proofs.lows.lay_lows.Given as goal

abbrev pub invariant-loop-i : goal.invariant-loop-i
invariant-loop-i l = l.area ≡ lows_laid l.initial.area l.lows l.records l.i
