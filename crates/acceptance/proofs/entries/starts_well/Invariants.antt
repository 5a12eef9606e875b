use Rattle.std.proofs.Common.{get_or, ltb, suc, true, ℕ, ◌+◌, ◌<◌, ◌≡◌}
use Rattle.acceptance.proofs.entries.starts_well.Given as goal

abbrev pub invariant-loop-i : goal.invariant-loop-i
invariant-loop-i l = (j : ℕ) → j < l.i → ltb (get_or l.area (l.at + j) 0) (get_or l.area (l.at + suc j) 0) ≡ true
