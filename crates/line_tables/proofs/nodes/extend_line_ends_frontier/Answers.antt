-- `line_tables::nodes::extend_line_ends_frontier` meets its contract: a node is placed on its lines.
-- Rests on Reading (what is read) and Placing (what is left).
use Rattle.std.proofs.Common.{arith}
use Rattle.line_tables.proofs.Placing.{is-new}
use Rattle.line_tables.proofs.Placing.{new-fits, new-small, pushes_all, placed_over, placed-turned, count-placed}
use Rattle.line_tables.proofs.Reading.{node-read, listing, list_read, out-inside, first_out, first-last-out, outgoing-is}
use Rattle.line_tables.proofs.Keeping.{spread_over, over_over}
use Rattle.line_tables.proofs.nodes.extend_line_ends_frontier.Goals as goal

pub word_at-first-requires : goal.word_at-first-requires
word_at-first-requires c = let now = spread_over c.requires.0.spread c.take_node-incoming.ensures.1 in
    let node = node-read now c.requires.1 c.word_at-v.ensures in
    omega (arith, out-inside now c.requires.1 node)

pub word_at-requires : goal.word_at-requires
word_at-requires c = let now = spread_over c.requires.0.spread c.take_node-incoming.ensures.1 in
    let node = node-read now c.requires.1 c.word_at-v.ensures in
    out-inside now c.requires.1 node

pub overflow_sub-outgoing : goal.overflow_sub-outgoing
overflow_sub-outgoing c = let now = spread_over c.requires.0.spread c.take_node-incoming.ensures.1 in
    let node = node-read now c.requires.1 c.word_at-v.ensures in
    omega (arith, first-last-out now c.requires.1 node c.word_at-first.ensures c.word_at.ensures)

pub list_start-list-requires : goal.list_start-list-requires
list_start-list-requires c = let now = spread_over c.requires.0.spread c.take_node-incoming.ensures.1 in
    listing now c.requires.1

pub overflow_add-list : goal.overflow_add-list
overflow_add-list c = let now = spread_over c.requires.0.spread c.take_node-incoming.ensures.1 in
    let node = node-read now c.requires.1 c.word_at-v.ensures in
    let outgoing = outgoing-is now c.requires.1 node c.word_at-first.ensures c.word_at.ensures in
    let new = is-new c.args.b.now c.args.t c.take_node-incoming.ensures.0 outgoing c.new_lines-created.ensures in
    let list = list_read now c.requires.1 c.list_start-list.ensures in
    omega (arith, new-fits now c.requires.1 list c.take_node-incoming.ensures.0 c.requires.2 new, c.take_node-incoming.ensures.1.long)

pub create_new_lines-requires : goal.create_new_lines-requires
create_new_lines-requires c = let now = spread_over c.requires.0.spread c.take_node-incoming.ensures.1 in
    let node = node-read now c.requires.1 c.word_at-v.ensures in
    let outgoing = outgoing-is now c.requires.1 node c.word_at-first.ensures c.word_at.ensures in
    let new = is-new c.args.b.now c.args.t c.take_node-incoming.ensures.0 outgoing c.new_lines-created.ensures in
    let list = list_read now c.requires.1 c.list_start-list.ensures in
    (new-fits now c.requires.1 list c.take_node-incoming.ensures.0 c.requires.2 new, new-small now c.requires.1 list c.take_node-incoming.ensures.0 c.requires.2 new)

pub push_lines-requires : goal.push_lines-requires
push_lines-requires c = let now = spread_over c.requires.0.spread c.take_node-incoming.ensures.1 in
    let node = node-read now c.requires.1 c.word_at-v.ensures in
    let outgoing = outgoing-is now c.requires.1 node c.word_at-first.ensures c.word_at.ensures in
    let new = is-new c.args.b.now c.args.t c.take_node-incoming.ensures.0 outgoing c.new_lines-created.ensures in
    let list = list_read now c.requires.1 c.list_start-list.ensures in
    pushes_all now c.requires.1 list c.take_node-incoming.ensures.0 c.requires.2 new c.take_node-incoming.ensures.2 c.create_new_lines.ensures (first_out now c.requires.1 node c.word_at-first.ensures) outgoing

pub overflow_add-result : goal.overflow_add-result
overflow_add-result c = let now = spread_over c.requires.0.spread c.take_node-incoming.ensures.1 in
    let node = node-read now c.requires.1 c.word_at-v.ensures in
    let outgoing = outgoing-is now c.requires.1 node c.word_at-first.ensures c.word_at.ensures in
    let new = is-new c.args.b.now c.args.t c.take_node-incoming.ensures.0 outgoing c.new_lines-created.ensures in
    let list = list_read now c.requires.1 c.list_start-list.ensures in
    omega (arith, new-small now c.requires.1 list c.take_node-incoming.ensures.0 c.requires.2 new)

pub returns : goal.returns
returns c = let now = spread_over c.requires.0.spread c.take_node-incoming.ensures.1 in
    let node = node-read now c.requires.1 c.word_at-v.ensures in
    let outgoing = outgoing-is now c.requires.1 node c.word_at-first.ensures c.word_at.ensures in
    let new = is-new c.args.b.now c.args.t c.take_node-incoming.ensures.0 outgoing c.new_lines-created.ensures in
    let list = list_read now c.requires.1 c.list_start-list.ensures in (
      count-placed now c.requires.1 c.requires.2 new,
      over_over c.take_node-incoming.ensures.1 (placed_over now c.requires.1 list c.take_node-incoming.ensures.0 c.requires.2 new c.take_node-incoming.ensures.2 c.create_new_lines.ensures (first_out now c.requires.1 node c.word_at-first.ensures) outgoing c.push_lines.ensures),
      placed-turned now c.requires.1 list c.take_node-incoming.ensures.0 c.requires.2 new c.take_node-incoming.ensures.2 c.create_new_lines.ensures (first_out now c.requires.1 node c.word_at-first.ensures) outgoing c.push_lines.ensures,
    )
