-- `records::check_records` meets its contract: 12 by the count or at a bad record, else what 13 says.
-- Rests on Testing.
use Rattle.std.proofs.lemmas.Result.{err_from_is_err_and}
use Rattle.records.proofs.Testing.{beyond, bad_record_lem, nodes-there, all_tested}
use Rattle.records.proofs.check_records.Goals as goal

pub returns-then-whole-count : goal.returns-then-whole-count
returns-then-whole-count c = beyond c.args.b.now c.args.area.now c.args.at c.args.slots c.args.words.now c.if-whole-count.true

pub returns-in_err-slot_records : goal.returns-in_err-slot_records
returns-in_err-slot_records c = let p = err_from_is_err_and c.from_residual.result c.from_residual.ensures.1 in
    rw (p.1, p.2) (bad_record_lem c.requires.usable c.if-whole-count.false c.in_err-slot_records.ensures)

pub find_straddling-requires : goal.find_straddling-requires
find_straddling-requires c = nodes-there c.requires.usable c.if-whole-count.false c.in_ok-slot_records.ensures c.requires.slots_fit

pub returns : goal.returns
returns c = all_tested c.requires.usable c.if-whole-count.false c.in_ok-slot_records.ensures c.find_straddling.ensures
