-- `line_checker::extend::find_extended` meets its contract: 9, 12 and 13 on the area, then the extension on the area after the test.
-- Rests on ExtendFound and records' Testing.
use Rattle.std.proofs.Common.{refl}
use Rattle.std.proofs.lemmas.Result.{err_from_is_err_and}
use Rattle.records.proofs.Slots.{slots_room}
use Rattle.records.proofs.Testing.{recorded-after, slotted-after}
use Rattle.tables.proofs.Usable.{still_usable}
use Rattle.line_checker.proofs.ExtendFound.{node_unknown, extend_refused, extend-made}
use Rattle.line_checker.proofs.extend.find_extended.Goals as goal

pub returns-then-at-node : goal.returns-then-at-node
returns-then-at-node c = node_unknown c.requires.usable c.args.node c.args.records.now c.args.count _ c.if-at-node.true

pub lay_slots-slots-requires : goal.lay_slots-slots-requires
lay_slots-slots-requires c = slots_room c.requires.usable

pub check_records-requires : goal.check_records-requires
check_records-requires c = record { usable = c.requires.usable; slots_fit = c.lay_slots-slots.ensures }

pub returns-in_err-check_records : goal.returns-in_err-check_records
returns-in_err-check_records c = let p = err_from_is_err_and c.from_residual.result c.from_residual.ensures.1 in
    rw (p.1, p.2) (extend_refused c.requires.usable c.if-at-node.false c.in_err-check_records.ensures _)

pub extend-requires : goal.extend-requires
extend-requires c = record { usable = still_usable c.requires.usable c.in_ok-check_records.ensures.kept; slots_fit = c.lay_slots-slots.ensures; recorded = recorded-after c.requires.usable c.in_ok-check_records.ensures refl; slotted = slotted-after c.requires.usable c.in_ok-check_records.ensures refl; v_lt_nodes = (c.if-at-node.false, c.requires.links_in_bounds) }

pub returns : goal.returns
returns c = extend-made c.requires.usable c.if-at-node.false c.in_ok-check_records.ensures c.extend.ensures
