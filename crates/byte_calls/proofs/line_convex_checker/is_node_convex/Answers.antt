-- `byte_calls::line_convex_checker::is_node_convex` meets its contract: an opening's refusal passed up, or the list is checked on the opened area.
-- Rests on opening's Using and calling's LineCalls.
use Rattle.std.proofs.lemmas.Result.{err_from_is_err_and}
use Rattle.opening.proofs.Using.{usable, has-scratch}
use Rattle.calling.proofs.LineCalls.{line_refused, line_answered}
use Rattle.byte_calls.proofs.line_convex_checker.is_node_convex.Goals as goal

pub returns-in_err-at : goal.returns-in_err-at
returns-in_err-at c = let p = err_from_is_err_and c.from_residual.result c.from_residual.ensures.1 in
    rw (p.1, p.2) (line_refused c.in_err-at.ensures _)

pub check_list-checked-requires : goal.check_list-checked-requires
check_list-checked-requires c = usable c.in_ok-at.ensures

pub clear_scratch-requires : goal.clear_scratch-requires
clear_scratch-requires c = has-scratch c.in_ok-at.ensures c.check_list-checked.ensures.kept

pub returns : goal.returns
returns c = line_answered c.in_ok-at.ensures c.clear_scratch.ensures _ c.check_list-checked.ensures
