-- `byte_records::extend_records_bytes` meets its contract: 9, a count beyond the buffer, and then the first records extended in a room and put back.
-- Rests on Crossed, Reading, and line_checker's ExtendFound and Out.
use Rattle.std.proofs.Common.{[], arith, length-take-le, refl, rules, sym, ◌*◌}
use Rattle.std.proofs.lemmas.Result.{err_from_is_err_and}
use Rattle.paper.specs.Words.{words_from}
use Rattle.line_checker.proofs.ExtendFound.{node_unknown, extend_refused}
use Rattle.line_checker.proofs.Out.{never_answered, never_wrote, tells_many, tells_none, no_records, records-inside, records-long-bytes, records-put, bytes-kept}
use Rattle.byte_records.proofs.Crossed.{beyond-bytes, extend-all}
use Rattle.byte_records.proofs.Reading.{read_all}
use Rattle.byte_records.proofs.extend_records_bytes.Goals as goal

pub returns-then-at-node : goal.returns-then-at-node
returns-then-at-node c = bytes-kept (λ i. search rules)
    (no_records (node_unknown c.requires c.args.node (words_from c.args.records.now) c.args.count [] c.if-at-node.true)
    (words_from c.args.records.now) (λ k. never_answered _))

pub returns-in_err-read : goal.returns-in_err-read
returns-in_err-read c = let p = err_from_is_err_and c.from_residual.result c.from_residual.ensures.1 in
    rw (p.1, p.2) (bytes-kept (λ i. search rules)
    (no_records
    (extend_refused c.requires c.if-at-node.false (beyond-bytes c.args.b.now c.args.area.now c.args.at c.args.records.now c.in_err-read.ensures) [])
    (words_from c.args.records.now) (λ k. never_answered _)))

pub find_extended-requires : goal.find_extended-requires
find_extended-requires c = record { usable = c.requires; links_in_bounds = omega (arith, c.record_room-room.ensures, c.requires.read.few-nodes, c.requires.read.few-links) }

pub returns-in_err-made : goal.returns-in_err-made
returns-in_err-made c = let p = err_from_is_err_and c.from_residual-in_err-made.result c.from_residual-in_err-made.ensures.1 in
    rw (p.1, p.2) (bytes-kept (λ i. search rules)
    (no_records
    (extend-all c.requires (read_all _ c.args.records.now c.args.count refl c.in_ok-read.ensures) c.args.node c.in_err-made.ensures)
    (words_from c.args.records.now) (λ k. never_answered _)))

pub returns-in_default : goal.returns-in_default
returns-in_default c = bytes-kept (λ i. search rules)
    (no_records
    (extend-all c.requires (read_all _ c.args.records.now c.args.count refl c.in_ok-read.ensures) c.args.node (tells_none c.in_default.is c.in_ok-made.ensures))
    (words_from c.args.records.now) never_wrote)

pub returns-then-records-made : goal.returns-then-records-made
returns-then-records-made c = records-long-bytes
    (extend-all c.requires (read_all _ c.args.records.now c.args.count refl c.in_ok-read.ensures) c.args.node c.in_ok-made.ensures)
    c.args.records.now (λ i. search rules) (tells_many c.in-Some.is) c.if-records-made.true

pub slice_bounds-room-end : goal.slice_bounds-room-end
slice_bounds-room-end c = records-inside
    (extend-all c.requires (read_all _ c.args.records.now c.args.count refl c.in_ok-read.ensures) c.args.node c.in_ok-made.ensures)
    (words_from c.args.records.now) (tells_many c.in-Some.is)

pub slice_bounds-put_words-end : goal.slice_bounds-put_words-end
slice_bounds-put_words-end c = sym (length-take-le (3 * c.in-Some.made) _ (records-inside
    (extend-all c.requires (read_all _ c.args.records.now c.args.count refl c.in_ok-read.ensures) c.args.node c.in_ok-made.ensures)
    (words_from c.args.records.now) (tells_many c.in-Some.is)))

pub returns : goal.returns
returns c = records-put
    (extend-all c.requires (read_all _ c.args.records.now c.args.count refl c.in_ok-read.ensures) c.args.node c.in_ok-made.ensures)
    c.args.records.now (λ i. search rules) (tells_many c.in-Some.is) c.if-records-made.false c.put_words.ensures
