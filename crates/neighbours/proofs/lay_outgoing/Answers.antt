-- `neighbours::lay_outgoing` meets its contract: the sections stand one after the other, and each step finds its own.
-- Rests on Laying.
use Rattle.std.proofs.Common.{refl}
use Rattle.stepmap.proofs.Known.{numbered}
use Rattle.neighbours.proofs.Laying.{firsts-fit, roomy-out, outgoing-laid}
use Rattle.neighbours.proofs.lay_outgoing.Goals as goal

pub first_ports_at-requires : goal.first_ports_at-requires
first_ports_at-requires c = record { numbered = numbered c.requires.read; n_in_bounds = firsts-fit c.requires }

pub links_by_output-requires : goal.links_by_output-requires
links_by_output-requires c = roomy-out c.requires refl refl refl refl c.first_ports_at.ensures

pub returns : goal.returns
returns c = outgoing-laid c.requires refl refl refl refl c.first_ports_at.ensures c.links_by_output.ensures
