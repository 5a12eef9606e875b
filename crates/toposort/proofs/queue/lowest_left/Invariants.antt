use Rattle.std.proofs.Common.{get_or, ℕ, ◌+◌, ◌<◌, ◌≡◌}
use Rattle.toposort.proofs.queue.lowest_left.Given as goal

abbrev pub invariant-loop-v : goal.invariant-loop-v
invariant-loop-v l = (k : ℕ) → k < l.v → get_or l.area (l.counts + k) 0 ≡ 0
