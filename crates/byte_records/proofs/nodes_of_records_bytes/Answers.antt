-- `byte_records::nodes_of_records_bytes` meets its contract: a count beyond the buffer, and then the nodes in the first records, put into the buffer.
-- Rests on Crossed, Reading, and line_checker's NodesFound and Out.
use Rattle.std.proofs.Common.{[], arith, length-take-le, refl, rules, sym}
use Rattle.std.proofs.lemmas.Result.{err_from_is_err_and}
use Rattle.paper.specs.Words.{words_from}
use Rattle.line_checker.proofs.NodesFound.{nodes_refused}
use Rattle.line_checker.proofs.Out.{never_answered, no_nodes, nodes-inside, nodes-long-bytes, nodes-put, bytes-kept}
use Rattle.byte_records.proofs.Crossed.{beyond-bytes, nodes-all}
use Rattle.byte_records.proofs.Reading.{read_all}
use Rattle.byte_records.proofs.nodes_of_records_bytes.Goals as goal

pub returns-in_err-read : goal.returns-in_err-read
returns-in_err-read c = let p = err_from_is_err_and c.from_residual.result c.from_residual.ensures.1 in
    rw (p.1, p.2) (bytes-kept (λ i. search rules)
    (no_nodes
    (nodes_refused c.requires (beyond-bytes c.args.b.now c.args.area.now c.args.at c.args.records.now c.in_err-read.ensures) [])
    (words_from c.args.buffer.now) never_answered))

pub find_nodes-requires : goal.find_nodes-requires
find_nodes-requires c = record { usable = c.requires; in_bounds = omega (arith, c.node_room-room.ensures) }

pub returns-in_err-made : goal.returns-in_err-made
returns-in_err-made c = let p = err_from_is_err_and c.from_residual-in_err-made.result c.from_residual-in_err-made.ensures.1 in
    rw (p.1, p.2) (bytes-kept (λ i. search rules)
    (no_nodes
    (nodes-all c.requires (read_all _ c.args.records.now c.args.count refl c.in_ok-read.ensures) c.in_err-made.ensures)
    (words_from c.args.buffer.now) never_answered))

pub returns-then-buffer-made : goal.returns-then-buffer-made
returns-then-buffer-made c = nodes-long-bytes
    (nodes-all c.requires (read_all _ c.args.records.now c.args.count refl c.in_ok-read.ensures) c.in_ok-made.ensures)
    c.args.buffer.now (λ i. search rules) refl c.if-buffer-made.true

pub slice_bounds-room-end : goal.slice_bounds-room-end
slice_bounds-room-end c = nodes-inside
    (nodes-all c.requires (read_all _ c.args.records.now c.args.count refl c.in_ok-read.ensures) c.in_ok-made.ensures)
    (words_from c.args.buffer.now) refl

pub slice_bounds-put_words-end : goal.slice_bounds-put_words-end
slice_bounds-put_words-end c = sym (length-take-le c.in_ok-made.made _ (nodes-inside
    (nodes-all c.requires (read_all _ c.args.records.now c.args.count refl c.in_ok-read.ensures) c.in_ok-made.ensures)
    (words_from c.args.buffer.now) refl))

pub returns : goal.returns
returns c = nodes-put
    (nodes-all c.requires (read_all _ c.args.records.now c.args.count refl c.in_ok-read.ensures) c.in_ok-made.ensures)
    c.args.buffer.now (λ i. search rules) refl c.if-buffer-made.false c.put_words.ensures
