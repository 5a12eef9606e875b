-- `byte_calls::line_convex_checker::try_extend_intervals` meets its contract: an opening's refusal passed up, or the records are extended on the opened area.
-- Rests on opening's Using and calling's LineCalls, and Buffers.
use Rattle.std.proofs.Common.{rules}
use Rattle.std.proofs.lemmas.Result.{err_from_is_err_and}
use Rattle.opening.proofs.Using.{usable, has-scratch}
use Rattle.calling.proofs.LineCalls.{extend_refused, extend_answered}
use Rattle.byte_calls.proofs.Buffers.{refused_bytes, answered_bytes}
use Rattle.byte_calls.proofs.line_convex_checker.try_extend_intervals.Goals as goal

pub returns-in_err-at : goal.returns-in_err-at
returns-in_err-at c = let p = err_from_is_err_and c.from_residual.result c.from_residual.ensures.1 in
    rw (p.1, p.2) (refused_bytes c.args.records.now (λ i. search rules) (extend_refused c.in_err-at.ensures _ _ _))

pub extend_records_bytes-extended-requires : goal.extend_records_bytes-extended-requires
extend_records_bytes-extended-requires c = usable c.in_ok-at.ensures

pub clear_scratch-requires : goal.clear_scratch-requires
clear_scratch-requires c = has-scratch c.in_ok-at.ensures c.extend_records_bytes-extended.ensures.kept

pub returns : goal.returns
returns c = answered_bytes c.extend_records_bytes-extended.ensures (extend_answered c.in_ok-at.ensures c.clear_scratch.ensures _ _)
