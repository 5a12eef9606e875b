-- `intervals::get_intervals` meets its contract: the counts are set to 0, the nodes added, and the records tested.
-- Rests on Cleared and Whole.
use Rattle.std.proofs.Common.{arith}
use Rattle.paper.proofs.Area.{W-sum}
use Rattle.intervals.proofs.Cleared.{can_add-nodes}
use Rattle.intervals.proofs.Whole.{can_test, not_contiguous, contiguous}
use Rattle.intervals.proofs.get_intervals.Goals as goal

pub lay_map-room-requires : goal.lay_map-room-requires
lay_map-room-requires c = omega (arith, W-sum c.args.b.now, c.requires.usable.read, c.requires.usable.placed.whole, c.requires.usable.placed.after-scratch)

pub add_nodes-made-requires : goal.add_nodes-made-requires
add_nodes-made-requires c = can_add-nodes c.requires.usable c.requires.listed c.lay_map-room.ensures c.fill.ensures c.args.records.now c.requires.links_in_bounds

pub all_filled-requires : goal.all_filled-requires
all_filled-requires c = can_test c.requires.usable c.requires.listed c.lay_map-room.ensures c.fill.ensures c.add_nodes-made.ensures c.requires.links_in_bounds

pub returns-then-not-all_filled : goal.returns-then-not-all_filled
returns-then-not-all_filled c = not_contiguous c.requires.usable c.requires.listed c.lay_map-room.ensures c.fill.ensures c.add_nodes-made.ensures c.requires.links_in_bounds c.all_filled.ensures
    c.if-not-all_filled.true

pub returns : goal.returns
returns c = contiguous c.requires.usable c.requires.listed c.lay_map-room.ensures c.fill.ensures c.add_nodes-made.ensures c.requires.links_in_bounds c.all_filled.ensures
    c.if-not-all_filled.false
