-- `convex::line_convex_checker::get_intervals_from_nodes` meets its contract: an opening's refusal passed up, or the list's intervals are found on the opened area.
-- Rests on opening's Using and calling's LineCalls.
use Rattle.std.proofs.lemmas.Result.{err_from_is_err_and}
use Rattle.opening.proofs.Using.{usable, has-scratch}
use Rattle.calling.proofs.LineCalls.{intervals_refused, intervals_answered}
use Rattle.convex.proofs.line_convex_checker.get_intervals_from_nodes.Goals as goal

pub returns-in_err-at : goal.returns-in_err-at
returns-in_err-at c = let p = err_from_is_err_and c.from_residual.result c.from_residual.ensures.1 in
    rw (p.1, p.2) (intervals_refused c.in_err-at.ensures _ _)

pub intervals_of_list-written-requires : goal.intervals_of_list-written-requires
intervals_of_list-written-requires c = usable c.in_ok-at.ensures

pub clear_scratch-requires : goal.clear_scratch-requires
clear_scratch-requires c = has-scratch c.in_ok-at.ensures c.intervals_of_list-written.ensures.kept

pub returns : goal.returns
returns c = intervals_answered c.in_ok-at.ensures c.clear_scratch.ensures _ c.intervals_of_list-written.ensures
