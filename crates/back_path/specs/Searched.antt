-- The links in the scratch, behind room for the nodes that are met, with a mark and a distance for each node.
-- Rests on tables' Layout and Within, neighbours' Linked and distances' Reached.
use Rattle.std.specs.Prelude.{ℕ, ◌+◌, ◌≤◌, List}
use Rattle.tables.specs.declared.Layout.{Layout}
use Rattle.tables.specs.Within.{Within}
use Rattle.neighbours.specs.Linked.{Incoming, outgoing_size, incoming_size}
use Rattle.distances.specs.Met.{met_size}
use Rattle.distances.specs.Reached.{Standing}
use Rattle.back_path.specs.declared.showing.Room.{Room}

-- the links of both directions are laid, and no other word was written
pub record Searched (b a : List ℕ) (at : Layout) (room : Room) (m : List ℕ) : Type 0 where
  pub standing : Standing b m (record { sizes = at.sizes; start = at.scratch; links = room.targets })
  pub incoming : Incoming b m at.sizes room.sources
  pub apart : at.scratch + met_size at.sizes.nodes ≤ room.sources.firsts
  pub kept : Within (at.scratch + met_size at.sizes.nodes) (outgoing_size at.sizes + incoming_size at.sizes) a m
