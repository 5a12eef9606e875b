-- `stepmap::links::is_missing` meets its contract: each return is one of refusal 4's tests.
-- Rests on LinkFaults.
use Rattle.stepmap.proofs.LinkFaults.{from-missing, out-missing, to-missing, in_missing}
use Rattle.stepmap.proofs.links.is_missing.Goals as goal

pub returns-then-from-n : goal.returns-then-from-n
returns-then-from-n c = from-missing _ _ c.requires.nodes c.link_from-from.ensures c.if-from-n.true

pub returns-then-link_out-num_outputs : goal.returns-then-link_out-num_outputs
returns-then-link_out-num_outputs c = out-missing _ _ c.link_from-from.ensures c.link_out.ensures c.num_outputs.ensures c.if-link_out-num_outputs.true

pub returns-then-to-n : goal.returns-then-to-n
returns-then-to-n c = to-missing _ _ c.requires.nodes c.link_to-to.ensures c.if-to-n.true

pub returns : goal.returns
returns c = in_missing _ _ c.requires.nodes c.link_from-from.ensures c.link_out.ensures c.num_outputs.ensures
    c.link_to-to.ensures c.link_in.ensures c.num_inputs.ensures c.if-from-n.false c.if-link_out-num_outputs.false
    c.if-to-n.false
