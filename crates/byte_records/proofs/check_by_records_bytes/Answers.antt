-- `byte_records::check_by_records_bytes` meets its contract: 8, a count beyond the buffer, and then the check of the first records, which decides for all.
-- Rests on Crossed and Reading.
use Rattle.std.proofs.Common.{refl}
use Rattle.std.proofs.lemmas.Result.{err_from_is_err_and}
use Rattle.line_checker.proofs.RecordCalls.{not_given, by_records_refused}
use Rattle.byte_records.proofs.Crossed.{beyond-bytes, check_all}
use Rattle.byte_records.proofs.Reading.{read_all}
use Rattle.byte_records.proofs.check_by_records_bytes.Goals as goal

pub returns-then-count-eq0 : goal.returns-then-count-eq0
returns-then-count-eq0 c = not_given c.args.at _ _ c.if-count-eq0.true

pub returns-in_err-read : goal.returns-in_err-read
returns-in_err-read c = let p = err_from_is_err_and c.from_residual.result c.from_residual.ensures.1 in
    rw (p.1, p.2) (by_records_refused c.requires c.if-count-eq0.false
    (beyond-bytes c.args.b.now c.args.area.now c.args.at c.args.records.now c.in_err-read.ensures))

pub returns : goal.returns
returns c = check_all c.requires (read_all _ c.args.records.now c.args.count refl c.in_ok-read.ensures) c.if-count-eq0.false c.check_by_records.ensures
