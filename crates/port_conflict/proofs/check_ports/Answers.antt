-- `port_conflict::check_ports` meets its contract: the lists are marked, the first ports written behind them, and the links held against the marks.
-- Rests on Answering, stepmap's Known and tables' Usable.
use Rattle.std.proofs.Common.{arith, refl}
use Rattle.std.proofs.lemmas.Result.{err_from_is_err_and}
use Rattle.stepmap.proofs.Known.{numbered}
use Rattle.tables.proofs.Usable.{still_usable}
use Rattle.port_conflict.proofs.Answering.{laid, looked, unknown_answered, answers}
use Rattle.port_conflict.proofs.check_ports.Goals as goal

pub mark_lists-requires : goal.mark_lists-requires
mark_lists-requires g c = record { fits = c.lay_room-room.ensures; sizes_in_bounds = omega (arith, c.requires.placed.after-scratch, c.requires.room) }

pub returns-in_err-mark_lists : goal.returns-in_err-mark_lists
returns-in_err-mark_lists g c = let p = err_from_is_err_and c.from_residual.result c.from_residual.ensures.1 in
    rw (p.1, p.2) (unknown_answered c.requires c.in_err-mark_lists.ensures refl _)

pub first_ports_at-requires : goal.first_ports_at-requires
first_ports_at-requires g c =
    let usable = still_usable c.requires c.in_ok-mark_lists.ensures.kept in
    record { numbered = numbered usable.read; n_in_bounds = omega (arith, c.lay_room-room.ensures, usable.placed.after-scratch, usable.room) }

pub first_links_meet-requires : goal.first_links_meet-requires
first_links_meet-requires g c = laid (still_usable c.requires c.in_ok-mark_lists.ensures.kept) c.lay_room-room.ensures c.first_ports_at.ensures

pub returns : goal.returns
returns g c =
    answers c.requires c.in_ok-mark_lists.ensures refl
    (looked (still_usable c.requires c.in_ok-mark_lists.ensures.kept) c.lay_room-room.ensures c.first_ports_at.ensures c.first_links_meet.ensures)
