-- `neighbours::lay_incoming` meets its contract: the first ports stand, and what is written is behind the links by output port, or keys.
-- Rests on Laying.
use Rattle.std.proofs.Common.{refl}
use Rattle.neighbours.proofs.Laying.{incoming-laid}
use Rattle.neighbours.proofs.lay_incoming.Goals as goal

pub returns : goal.returns
returns c = incoming-laid c.requires.outgoing c.requires.sizes_in_bounds refl refl c.links_by_input.ensures
