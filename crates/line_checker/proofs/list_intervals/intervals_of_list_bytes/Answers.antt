-- `line_checker::list_intervals::intervals_of_list_bytes` meets its contract: a list's intervals go from the room into the bytes.
-- Rests on Out.
use Rattle.std.proofs.Common.{arith, length-take-le, rules, sym, ◌*◌}
use Rattle.std.proofs.lemmas.Result.{err_from_is_err_and}
use Rattle.paper.specs.Words.{words_from}
use Rattle.line_checker.proofs.Out.{never_answered, never_wrote, tells_many, tells_none, no_records, records-inside, records-long-bytes, records-put, bytes-kept, cut_fits}
use Rattle.line_checker.proofs.list_intervals.intervals_of_list_bytes.Goals as goal

pub find_intervals-requires : goal.find_intervals-requires
find_intervals-requires g c = record { usable = c.requires; links_in_bounds = omega (arith, c.record_room-room.ensures, c.requires.read.few-nodes, c.requires.read.few-links) }

pub returns-in_err-made : goal.returns-in_err-made
returns-in_err-made g c = let p = err_from_is_err_and c.from_residual.result c.from_residual.ensures.1 in
    rw (p.1, p.2) (bytes-kept (λ i. omega (arith, c.type_inv.buffer i)) (no_records c.in_err-made.ensures (words_from c.args.buffer.now) (λ k. never_answered _)))

pub returns-in_default : goal.returns-in_default
returns-in_default g c = bytes-kept (λ i. omega (arith, c.type_inv.buffer i)) (no_records (tells_none c.in_default.is c.in_ok-made.ensures) (words_from c.args.buffer.now) never_wrote)

pub returns-then-buffer-made : goal.returns-then-buffer-made
returns-then-buffer-made g c = records-long-bytes c.in_ok-made.ensures c.args.buffer.now (λ i. omega (arith, c.type_inv.buffer i)) (tells_many c.in-Some.is) c.if-buffer-made.true

pub slice_bounds-room-end : goal.slice_bounds-room-end
slice_bounds-room-end g c = records-inside c.in_ok-made.ensures (words_from c.args.buffer.now) (tells_many c.in-Some.is)

pub slice_bounds-put_words-end : goal.slice_bounds-put_words-end
slice_bounds-put_words-end g c = sym (length-take-le (3 * c.in-Some.made) _ (records-inside c.in_ok-made.ensures (words_from c.args.buffer.now) (tells_many c.in-Some.is)))

pub put_words-requires : goal.put_words-requires
put_words-requires g c = cut_fits c.args.buffer.now _ (3 * c.in-Some.made) (omega (arith, c.if-buffer-made.false))

pub returns : goal.returns
returns g c = records-put c.in_ok-made.ensures c.args.buffer.now (λ i. search rules) (tells_many c.in-Some.is) c.if-buffer-made.false c.put_words.ensures
