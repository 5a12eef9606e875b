-- The words of the scratch that the lines are laid with: each part stands behind the one before it, and all are in the scratch.
-- Rests on tables' Placed and neighbours' Listing; the first four parts stand where ordering left them.
use Rattle.std.specs.Prelude.{◌+◌, ◌≤◌}
use Rattle.neighbours.specs.declared.Listing.{Listing}
use Rattle.tables.specs.declared.Layout.{Layout}
use Rattle.tables.specs.Placed.{scratch_size}
use Rattle.line_tables.specs.declared.room.Room.{Room}

-- where they stand: from the start of the scratch on
abbrev pub room_of : Layout → Room
room_of at =
    record {
      firsts = at.scratch;
      ports = at.scratch + (at.sizes.nodes + 1);
      tops = at.scratch + (at.sizes.nodes + 1) + at.sizes.links;
      out_sorted = at.scratch + (at.sizes.nodes + 1) + at.sizes.links + (at.sizes.ports + 1);
      outs = at.scratch + (at.sizes.nodes + 1) + at.sizes.links + (at.sizes.ports + 1) + at.sizes.links;
      in_starts = at.scratch + (at.sizes.nodes + 1) + at.sizes.links + (at.sizes.ports + 1) + at.sizes.links + (at.sizes.nodes + 1);
      in_sorted =
          at.scratch + (at.sizes.nodes + 1) + at.sizes.links + (at.sizes.ports + 1) + at.sizes.links + (at.sizes.nodes + 1) + (at.sizes.ports + 1);
      stack =
          at.scratch + (at.sizes.nodes + 1) + at.sizes.links + (at.sizes.ports + 1) + at.sizes.links + (at.sizes.nodes + 1) + (at.sizes.ports + 1)
          + at.sizes.links;
    }

pub record Fits (at : Layout) (room : Room) : Type 0 where
  pub before-firsts : at.scratch ≤ room.firsts
  pub after-firsts : room.firsts + (at.sizes.nodes + 1) ≤ room.ports
  pub after-ports : room.ports + at.sizes.links ≤ room.tops
  pub after-tops : room.tops + (at.sizes.ports + 1) ≤ room.out_sorted
  pub after-out_sorted : room.out_sorted + at.sizes.links ≤ room.outs
  pub after-outs : room.outs + (at.sizes.nodes + 1) ≤ room.in_starts
  pub after-in_starts : room.in_starts + (at.sizes.ports + 1) ≤ room.in_sorted
  pub after-in_sorted : room.in_sorted + at.sizes.links ≤ room.stack
  pub after-stack : room.stack + at.sizes.links ≤ at.scratch + scratch_size at.sizes

-- the links by output port, and those by input port
abbrev pub outputs_of : Room → Listing
outputs_of room =
    record { firsts = room.firsts; keys = room.ports; starts = room.tops; sorted = room.out_sorted; end = room.outs }

abbrev pub inputs_of : Room → Listing
inputs_of room =
    record { firsts = room.firsts; keys = room.ports; starts = room.in_starts; sorted = room.in_sorted; end = room.stack }
