-- `line_checker::extend::extend_records` meets its contract: the records extended go from the room into their buffer.
-- Rests on Out.
use Rattle.std.proofs.Common.{arith, rules}
use Rattle.std.proofs.lemmas.Result.{err_from_is_err_and}
use Rattle.line_checker.proofs.Out.{never_answered, never_wrote, tells_many, tells_none, no_records, records-inside, records-long, records-fit}
use Rattle.line_checker.proofs.extend.extend_records.Goals as goal

pub find_extended-requires : goal.find_extended-requires
find_extended-requires c = record { usable = c.requires; links_in_bounds = omega (arith, c.record_room-room.ensures, c.requires.read.few-nodes, c.requires.read.few-links) }

pub returns-in_err-made : goal.returns-in_err-made
returns-in_err-made c = let p = err_from_is_err_and c.from_residual.result c.from_residual.ensures.1 in
    rw (p.1, p.2) (no_records c.in_err-made.ensures c.args.records.now (λ k. never_answered _))

pub returns-in_default : goal.returns-in_default
returns-in_default c = no_records (tells_none c.in_default.is c.in_ok-made.ensures) c.args.records.now never_wrote

pub returns-then-records-made : goal.returns-then-records-made
returns-then-records-made c = records-long c.in_ok-made.ensures c.args.records.now (tells_many c.in-Some.is) c.if-records-made.true

pub copy_out-requires : goal.copy_out-requires
copy_out-requires c = (records-inside c.in_ok-made.ensures c.args.records.now (tells_many c.in-Some.is), search rules)

pub returns : goal.returns
returns c = records-fit c.in_ok-made.ensures c.args.records.now (tells_many c.in-Some.is) c.if-records-made.false c.copy_out.ensures
