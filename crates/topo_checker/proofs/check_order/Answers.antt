-- `topo_checker::check_order` meets its contract: the scratch is laid out, the list taken in, and the places marked are checked.
-- Rests on Checking.
use Rattle.std.proofs.Common.{refl}
use Rattle.std.proofs.lemmas.Result.{err_from_is_err_and}
use Rattle.topo_checker.proofs.Checking.{unlisted, laid_now, fresh, unknown_answered, order_answered}
use Rattle.topo_checker.proofs.check_order.Goals as goal

pub take_list-requires : goal.take_list-requires
take_list-requires g c = record { places_stand = c.lay_out-room.ensures.laid.placed; unlisted = unlisted c.requires c.lay_out-room.ensures }

pub returns-in_err-take_list : goal.returns-in_err-take_list
returns-in_err-take_list g c = let p = err_from_is_err_and c.from_residual.result c.from_residual.ensures.1 in
    rw (p.1, p.2) (unknown_answered c.requires c.lay_out-room.ensures c.in_err-take_list.ensures refl _)

pub marked_convex-requires : goal.marked_convex-requires
marked_convex-requires g c = record { laid = laid_now c.requires c.lay_out-room.ensures c.in_ok-take_list.ensures; fresh = fresh c.requires c.lay_out-room.ensures c.in_ok-take_list.ensures }

pub returns : goal.returns
returns g c = order_answered c.requires c.lay_out-room.ensures c.in_ok-take_list.ensures refl c.marked_convex.ensures
