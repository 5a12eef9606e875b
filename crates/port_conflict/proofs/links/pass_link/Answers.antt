-- `port_conflict::links::pass_link` meets its contract: both ends have marks, and the marks are read before they are taken back.
-- Rests on Ends.
use Rattle.std.proofs.Common.{arith, lt-length-set}
use Rattle.port_conflict.proofs.Ends.{ends-inside, meets_not}
use Rattle.port_conflict.proofs.links.pass_link.Goals as goal

pub leads_to_input-requires : goal.leads_to_input-requires
leads_to_input-requires c = omega (arith, ends-inside c.requires.laid c.requires.k_lt_links c.source_port-source.ensures c.target_port-target.ensures)

pub leads_to_input-requires-else-leads_to_input : goal.leads_to_input-requires-else-leads_to_input
leads_to_input-requires-else-leads_to_input c = omega (arith, ends-inside c.requires.laid c.requires.k_lt_links c.source_port-source.ensures c.target_port-target.ensures)

pub overflow_add-area : goal.overflow_add-area
overflow_add-area c = omega (arith, ends-inside c.requires.laid c.requires.k_lt_links c.source_port-source.ensures c.target_port-target.ensures)

pub offset_bounds-area-room : goal.offset_bounds-area-room
offset_bounds-area-room c = omega (arith, ends-inside c.requires.laid c.requires.k_lt_links c.source_port-source.ensures c.target_port-target.ensures)

pub bounds-area-room : goal.bounds-area-room
bounds-area-room c = omega (arith, ends-inside c.requires.laid c.requires.k_lt_links c.source_port-source.ensures c.target_port-target.ensures)

pub overflow_add-area-2 : goal.overflow_add-area-2
overflow_add-area-2 c = omega (arith, ends-inside c.requires.laid c.requires.k_lt_links c.source_port-source.ensures c.target_port-target.ensures)

pub offset_bounds-area-room-2 : goal.offset_bounds-area-room-2
offset_bounds-area-room-2 c = omega (arith, ends-inside c.requires.laid c.requires.k_lt_links c.source_port-source.ensures c.target_port-target.ensures)

pub bounds-area-room-2 : goal.bounds-area-room-2
bounds-area-room-2 c = lt-length-set c.args.area.now _ _ (omega (arith, ends-inside c.requires.laid c.requires.k_lt_links c.source_port-source.ensures c.target_port-target.ensures))

pub returns : goal.returns
returns c = meets_not c.args.b.now c.args.area.now c.args.room c.args.k c.source_port-source.ensures
    c.target_port-target.ensures c.leads_to_input.ensures c.if-leads_to_input.false c.leads_to_input-else-leads_to_input.ensures c.if-leads_to_input-2.false
