-- `byte_calls::line_convex_checker::is_convex_by_intervals` meets its contract: an opening's refusal passed up, or the records are checked on the opened area.
-- Rests on opening's Using and calling's LineCalls.
use Rattle.std.proofs.lemmas.Result.{err_from_is_err_and}
use Rattle.opening.proofs.Using.{usable, has-scratch}
use Rattle.calling.proofs.LineCalls.{by_records_refused, by_records_answered}
use Rattle.byte_calls.proofs.line_convex_checker.is_convex_by_intervals.Goals as goal

pub returns-in_err-at : goal.returns-in_err-at
returns-in_err-at c = let p = err_from_is_err_and c.from_residual.result c.from_residual.ensures.1 in
    rw (p.1, p.2) (by_records_refused c.in_err-at.ensures _ _)

pub check_by_records_bytes-recorded-requires : goal.check_by_records_bytes-recorded-requires
check_by_records_bytes-recorded-requires c = usable c.in_ok-at.ensures

pub clear_scratch-requires : goal.clear_scratch-requires
clear_scratch-requires c = has-scratch c.in_ok-at.ensures c.check_by_records_bytes-recorded.ensures.kept

pub returns : goal.returns
returns c = by_records_answered c.in_ok-at.ensures c.clear_scratch.ensures _ _ c.check_by_records_bytes-recorded.ensures
