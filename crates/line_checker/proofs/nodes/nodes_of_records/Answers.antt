-- `line_checker::nodes::nodes_of_records` meets its contract: the nodes go from the room into the buffer.
-- Rests on Out.
use Rattle.std.proofs.Common.{arith, refl, rules}
use Rattle.std.proofs.lemmas.Result.{err_from_is_err_and}
use Rattle.line_checker.proofs.Out.{never_answered, no_nodes, nodes-inside, nodes-long, nodes-fit}
use Rattle.line_checker.proofs.nodes.nodes_of_records.Goals as goal

pub find_nodes-requires : goal.find_nodes-requires
find_nodes-requires c = record { usable = c.requires; in_bounds = omega (arith, c.node_room-room.ensures) }

pub returns-in_err-made : goal.returns-in_err-made
returns-in_err-made c = let p = err_from_is_err_and c.from_residual.result c.from_residual.ensures.1 in
    rw (p.1, p.2) (no_nodes c.in_err-made.ensures c.args.buffer.now never_answered)

pub returns-then-buffer-made : goal.returns-then-buffer-made
returns-then-buffer-made c = nodes-long c.in_ok-made.ensures c.args.buffer.now refl c.if-buffer-made.true

pub copy_out-requires : goal.copy_out-requires
copy_out-requires c = (nodes-inside c.in_ok-made.ensures c.args.buffer.now refl, search rules)

pub returns : goal.returns
returns c = nodes-fit c.in_ok-made.ensures c.args.buffer.now refl c.if-buffer-made.false c.copy_out.ensures
