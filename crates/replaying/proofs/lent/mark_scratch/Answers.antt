use Rattle.std.proofs.Common.{arith, rules}
use Rattle.replaying.proofs.Found.{within-size}
use Rattle.replaying.proofs.lent.mark_scratch.Goals as goal

pub offset_bounds-area-from : goal.offset_bounds-area-from
offset_bounds-area-from c = omega (arith, within-size c.scratch.ensures c.in-Some.is)

pub slice_bounds-fill-count : goal.slice_bounds-fill-count
slice_bounds-fill-count c = omega (arith, within-size c.scratch.ensures c.in-Some.is)

pub slice_bounds-fill-start : goal.slice_bounds-fill-start
slice_bounds-fill-start c = let part = within-size c.scratch.ensures c.in-Some.is in search rules

pub slice_bounds-fill-end : goal.slice_bounds-fill-end
slice_bounds-fill-end c = let part = within-size c.scratch.ensures c.in-Some.is in search rules
