-- `back_path::showing::show_listed` meets its contract: the links laid, the list marked, the way back closed, and the path written or refused.
-- Rests on Listing and distances' Reaching.
use Rattle.std.proofs.Common.{arith}
use Rattle.distances.proofs.Reaching.{begins}
use Rattle.back_path.proofs.Listing.{to-mark, standing, sourced, near, end_known, end_way, shows_none, shows_long, shows_path}
use Rattle.back_path.proofs.showing.show_listed.Goals as goal

pub mark_list-requires : goal.mark_list-requires
mark_list-requires c = to-mark c.requires.usable c.requires.listed c.lay-room.ensures

pub close-requires : goal.close-requires
close-requires c = record { standing = standing c.requires.usable c.requires.listed c.lay-room.ensures c.mark_list.ensures; reached = begins c.mark_list.ensures }

pub returns-in_default : goal.returns-in_default
returns-in_default c = shows_none c.requires.usable c.requires.listed c.lay-room.ensures c.mark_list.ensures c.in_default.ensures _

pub overflow_add-steps : goal.overflow_add-steps
overflow_add-steps c = omega (arith, near c.requires.usable c.requires.listed c.lay-room.ensures c.mark_list.ensures c.in-Some.ensures)

pub returns-then-buffer-steps : goal.returns-then-buffer-steps
returns-then-buffer-steps c = shows_long c.requires.usable c.requires.listed c.lay-room.ensures c.mark_list.ensures c.in-Some.ensures _ c.if-buffer-steps.true

pub overflow_add-d : goal.overflow_add-d
overflow_add-d c = omega (arith, near c.requires.usable c.requires.listed c.lay-room.ensures c.mark_list.ensures c.in-Some.ensures)

pub write_path-requires : goal.write_path-requires
write_path-requires c = record { sourced = sourced c.requires.usable c.requires.listed c.lay-room.ensures c.mark_list.ensures c.in-Some.ensures; v_lt_nodes = end_known c.requires.usable c.requires.listed c.lay-room.ensures c.mark_list.ensures c.in-Some.ensures; has_way = end_way c.requires.usable c.requires.listed c.lay-room.ensures c.mark_list.ensures c.in-Some.ensures; d_in_bounds = omega (arith, c.if-buffer-steps.false) }

pub returns : goal.returns
returns c = shows_path c.requires.usable c.requires.listed c.lay-room.ensures c.mark_list.ensures c.in-Some.ensures _
    (omega (arith, c.if-buffer-steps.false)) c.write_path.ensures
