-- The words that the check of two lists of ports writes to: each part stands behind the one before it, and all are in the scratch.
-- Rests on tables' Placed.
use Rattle.std.specs.Prelude.{◌+◌, ◌≤◌}
use Rattle.tables.specs.declared.Layout.{Layout}
use Rattle.tables.specs.Placed.{scratch_size}
use Rattle.port_conflict.specs.declared.room.PortRoom.{PortRoom}

pub record Fits (at : Layout) (room : PortRoom) : Type 0 where
  pub before-firsts : at.scratch ≤ room.firsts
  pub after-firsts : room.firsts + (at.sizes.nodes + 1) ≤ room.inputs
  pub after-inputs : room.inputs + at.sizes.ports ≤ room.outputs
  pub after-outputs : room.outputs + at.sizes.ports ≤ at.scratch + scratch_size at.sizes
