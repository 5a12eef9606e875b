-- `toposort::count_inputs` meets its contract: the targets of the links are written, and tallied.
-- Rests on Inputs.
use Rattle.toposort.proofs.Inputs.{tabled, filled-room, keyed, zeros, counted}
use Rattle.toposort.proofs.count_inputs.Goals as goal

pub target_nodes-requires : goal.target_nodes-requires
target_nodes-requires c = tabled c.requires

pub fill-requires : goal.fill-requires
fill-requires c = filled-room c.requires c.target_nodes.ensures

pub tally-requires : goal.tally-requires
tally-requires c = record { keyed = keyed c.requires c.target_nodes.ensures c.fill.ensures; area_value = zeros c.requires c.target_nodes.ensures c.fill.ensures }

pub returns : goal.returns
returns c = counted c.requires c.target_nodes.ensures c.fill.ensures c.tally.ensures
