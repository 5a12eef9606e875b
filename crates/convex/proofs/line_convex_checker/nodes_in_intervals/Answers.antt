-- `convex::line_convex_checker::nodes_in_intervals` meets its contract: an opening's refusal passed up, or the nodes are found on the opened area.
-- Rests on opening's Using and calling's LineCalls.
use Rattle.std.proofs.lemmas.Result.{err_from_is_err_and}
use Rattle.opening.proofs.Using.{usable, has-scratch}
use Rattle.calling.proofs.LineCalls.{nodes_refused, nodes_answered}
use Rattle.convex.proofs.line_convex_checker.nodes_in_intervals.Goals as goal

pub returns-in_err-at : goal.returns-in_err-at
returns-in_err-at c = let p = err_from_is_err_and c.from_residual.result c.from_residual.ensures.1 in
    rw (p.1, p.2) (nodes_refused c.in_err-at.ensures _ _ _)

pub nodes_of_records-found-requires : goal.nodes_of_records-found-requires
nodes_of_records-found-requires c = usable c.in_ok-at.ensures

pub clear_scratch-requires : goal.clear_scratch-requires
clear_scratch-requires c = has-scratch c.in_ok-at.ensures c.nodes_of_records-found.ensures.kept

pub returns : goal.returns
returns c = nodes_answered c.in_ok-at.ensures c.clear_scratch.ensures _ _ c.nodes_of_records-found.ensures
