-- `line_checker::line_check::check_by_records` meets its contract: 8, 12 and 13 on the area, then the walk on the area after the test.
-- Rests on RecordCalls and records' Testing.
use Rattle.std.proofs.Common.{refl}
use Rattle.std.proofs.lemmas.Result.{err_from_is_err_and}
use Rattle.records.proofs.Slots.{slots_room}
use Rattle.records.proofs.Testing.{recorded-after}
use Rattle.tables.proofs.Usable.{still_usable}
use Rattle.line_checker.proofs.RecordCalls.{not_given, by_records_refused, by_records-walked}
use Rattle.line_checker.proofs.line_check.check_by_records.Goals as goal

pub returns-then-count-eq0 : goal.returns-then-count-eq0
returns-then-count-eq0 c = not_given c.args.at _ _ c.if-count-eq0.true

pub lay_slots-slots-requires : goal.lay_slots-slots-requires
lay_slots-slots-requires c = slots_room c.requires

pub check_records-requires : goal.check_records-requires
check_records-requires c = record { usable = c.requires; slots_fit = c.lay_slots-slots.ensures }

pub returns-in_err-check_records : goal.returns-in_err-check_records
returns-in_err-check_records c = let p = err_from_is_err_and c.from_residual.result c.from_residual.ensures.1 in
    rw (p.1, p.2) (by_records_refused c.requires c.if-count-eq0.false c.in_err-check_records.ensures)

pub walk-requires : goal.walk-requires
walk-requires c = record { usable = still_usable c.requires c.in_ok-check_records.ensures.kept; recorded = recorded-after c.requires c.in_ok-check_records.ensures refl }

pub returns : goal.returns
returns c = by_records-walked c.requires c.if-count-eq0.false c.in_ok-check_records.ensures c.walk.ensures
