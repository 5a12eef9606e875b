-- `line_checker::nodes::find_nodes` meets its contract: 12 and 13 on the area, then the nodes on the area after the test.
-- Rests on NodesFound and records' Testing.
use Rattle.std.proofs.Common.{refl}
use Rattle.std.proofs.lemmas.Result.{err_from_is_err_and}
use Rattle.records.proofs.Slots.{slots_room}
use Rattle.records.proofs.Testing.{recorded-after, slotted-after}
use Rattle.tables.proofs.Usable.{still_usable}
use Rattle.line_checker.proofs.NodesFound.{nodes_refused, nodes-found}
use Rattle.line_checker.proofs.nodes.find_nodes.Goals as goal

pub lay_slots-slots-requires : goal.lay_slots-slots-requires
lay_slots-slots-requires c = slots_room c.requires.usable

pub check_records-requires : goal.check_records-requires
check_records-requires c = record { usable = c.requires.usable; slots_fit = c.lay_slots-slots.ensures }

pub returns-in_err-check_records : goal.returns-in_err-check_records
returns-in_err-check_records c = let p = err_from_is_err_and c.from_residual.result c.from_residual.ensures.1 in
    rw (p.1, p.2) (nodes_refused c.requires.usable c.in_err-check_records.ensures _)

pub nodes_in-requires : goal.nodes_in-requires
nodes_in-requires c = record {
  usable = still_usable c.requires.usable c.in_ok-check_records.ensures.kept;
  fit = c.lay_slots-slots.ensures;
  recorded = recorded-after c.requires.usable c.in_ok-check_records.ensures refl;
  slotted = slotted-after c.requires.usable c.in_ok-check_records.ensures refl;
  roomy = c.requires.in_bounds;
}

pub returns : goal.returns
returns c = nodes-found c.requires.usable c.in_ok-check_records.ensures c.nodes_in.ensures
