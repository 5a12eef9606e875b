-- `back_path::showing::lay` meets its contract: the links of one direction stand behind those of the other.
-- Rests on Listing.
use Rattle.back_path.proofs.Listing.{free, room-behind, searched}
use Rattle.back_path.proofs.showing.lay.Goals as goal

pub lay_outgoing-targets-requires : goal.lay_outgoing-targets-requires
lay_outgoing-targets-requires c = free c.requires

pub lay_incoming-sources-requires : goal.lay_incoming-sources-requires
lay_incoming-sources-requires c = record { outgoing = c.lay_outgoing-targets.ensures.linked; sizes_in_bounds = room-behind c.requires c.lay_outgoing-targets.ensures }

pub returns : goal.returns
returns c = searched c.requires c.lay_outgoing-targets.ensures c.lay_incoming-sources.ensures
