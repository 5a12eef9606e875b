-- `toposort::ordering::order_sized` meets its contract: refusal 3, then 4 or 5, then what `order_sound` says.
-- Rests on Sizing.
use Rattle.std.proofs.Common.{refl, rules}
use Rattle.std.proofs.lemmas.Result.{err_from_is_err_and}
use Rattle.toposort.proofs.Sizing.{no_room, bad_link_lem, ready_zeroed, sound-links}
use Rattle.toposort.proofs.ordering.order_sized.Goals as goal

pub returns-then-area-at : goal.returns-then-area-at
returns-then-area-at c = no_room c.requires c.lay_out-at.ensures _ c.if-area-at.true refl

pub returns-in_err-check_links : goal.returns-in_err-check_links
returns-in_err-check_links c = let p = err_from_is_err_and c.from_residual.result c.from_residual.ensures.1 in
    rw (p.1, p.2) (bad_link_lem c.requires c.lay_out-at.ensures _ (search rules) c.fill.ensures _ c.in_err-check_links.ensures)

pub order_sound-requires : goal.order_sound-requires
order_sound-requires c = ready_zeroed c.requires c.lay_out-at.ensures _ (search rules) c.fill.ensures c.in_ok-check_links.ensures

pub returns : goal.returns
returns c = sound-links c.requires c.lay_out-at.ensures _ (search rules) c.fill.ensures c.in_ok-check_links.ensures c.order_sound.ensures
