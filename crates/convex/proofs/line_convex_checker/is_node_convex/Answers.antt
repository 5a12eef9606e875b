-- `convex::line_convex_checker::is_node_convex` meets its contract: an opening's refusal passed up, or the list is checked on the opened area;
-- and its answer keeps demand 3's promise. Rests on opening's Using, calling's LineCalls and Promises.
use Rattle.std.proofs.lemmas.Result.{err_from_is_err_and}
use Rattle.opening.proofs.Using.{usable, has-scratch}
use Rattle.calling.proofs.LineCalls.{line_refused, line_answered}
use Rattle.convex.proofs.Promises.{line_kept}
use Rattle.convex.proofs.line_convex_checker.is_node_convex.Goals as goal

pub returns-in_err-at : goal.returns-in_err-at
returns-in_err-at c = let p = err_from_is_err_and c.from_residual.result c.from_residual.ensures.1 in
    rw (p.1, p.2) (let same =
    line_refused c.in_err-at.ensures
    c.args.list.now
    in
    record { area_after = same; line_promise = line_kept same })

pub check_list-checked-requires : goal.check_list-checked-requires
check_list-checked-requires c = usable c.in_ok-at.ensures

pub clear_scratch-requires : goal.clear_scratch-requires
clear_scratch-requires c = has-scratch c.in_ok-at.ensures c.check_list-checked.ensures.kept

pub returns : goal.returns
returns c = let same =
    line_answered c.in_ok-at.ensures c.clear_scratch.ensures
    c.args.list.now
    c.check_list-checked.ensures
    in
    record { area_after = same; line_promise = line_kept same }
