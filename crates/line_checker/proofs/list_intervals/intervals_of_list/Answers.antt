-- `line_checker::list_intervals::intervals_of_list` meets its contract: a list's intervals go from the room into the buffer.
-- Rests on Out.
use Rattle.std.proofs.Common.{arith, rules}
use Rattle.std.proofs.lemmas.Result.{err_from_is_err_and}
use Rattle.line_checker.proofs.Out.{never_answered, never_wrote, tells_many, tells_none, no_records, records-inside, records-long, records-fit}
use Rattle.line_checker.proofs.list_intervals.intervals_of_list.Goals as goal

pub find_intervals-requires : goal.find_intervals-requires
find_intervals-requires g c = record { usable = c.requires; links_in_bounds = omega (arith, c.record_room-room.ensures, c.requires.read.few-nodes, c.requires.read.few-links) }

pub returns-in_err-made : goal.returns-in_err-made
returns-in_err-made g c = let p = err_from_is_err_and c.from_residual.result c.from_residual.ensures.1 in
    rw (p.1, p.2) (no_records c.in_err-made.ensures c.args.buffer.now (λ k. never_answered _))

pub returns-in_default : goal.returns-in_default
returns-in_default g c = no_records (tells_none c.in_default.is c.in_ok-made.ensures) c.args.buffer.now never_wrote

pub returns-then-buffer-made : goal.returns-then-buffer-made
returns-then-buffer-made g c = records-long c.in_ok-made.ensures c.args.buffer.now (tells_many c.in-Some.is) c.if-buffer-made.true

pub copy_out-requires : goal.copy_out-requires
copy_out-requires g c = (records-inside c.in_ok-made.ensures c.args.buffer.now (tells_many c.in-Some.is), search rules)

pub returns : goal.returns
returns g c = records-fit c.in_ok-made.ensures c.args.buffer.now (tells_many c.in-Some.is) c.if-buffer-made.false c.copy_out.ensures
