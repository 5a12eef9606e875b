use Rattle.std.proofs.Common.{arith, rules}
use Rattle.replaying.proofs.Found.{within-size}
use Rattle.replaying.proofs.lent.keep.Goals as goal

pub offset_bounds-kept-from : goal.offset_bounds-kept-from
offset_bounds-kept-from c = omega (arith, within-size c.scratch.ensures c.in-Some.is)

pub slice_bounds-fill-count : goal.slice_bounds-fill-count
slice_bounds-fill-count c = omega (arith, within-size c.scratch.ensures c.in-Some.is)

pub slice_bounds-fill-start : goal.slice_bounds-fill-start
slice_bounds-fill-start c = let part = within-size c.scratch.ensures c.in-Some.is in search rules

pub slice_bounds-fill-end : goal.slice_bounds-fill-end
slice_bounds-fill-end c = let part = within-size c.scratch.ensures c.in-Some.is in search rules

pub offset_bounds-kept-to : goal.offset_bounds-kept-to
offset_bounds-kept-to c = omega (arith, within-size c.scratch.ensures c.in-Some.is)

pub slice_bounds-fill-count-in-Some : goal.slice_bounds-fill-count-in-Some
slice_bounds-fill-count-in-Some c = omega (arith, within-size c.scratch.ensures c.in-Some.is)

pub slice_bounds-fill-start-in-Some : goal.slice_bounds-fill-start-in-Some
slice_bounds-fill-start-in-Some c = let part = within-size c.scratch.ensures c.in-Some.is in search rules
