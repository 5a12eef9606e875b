-- `topo_checker::listing::take_list` meets its contract: the entries passed are known, and their places are marked.
-- Rests on Taking.
use Rattle.std.proofs.Common.{ap, arith, not, ◌∙◌}
use Rattle.topo_checker.proofs.Taking.{taken_next, unknown_taken, all-taken}
use Rattle.topo_checker.proofs.listing.take_list.Goals as goal

pub returns-then-not-take_node : goal.returns-then-not-take_node
returns-then-not-take_node g c = unknown_taken c.requires.places_stand c.loop-i.invariant (omega arith) (c.from.ensures ∙ c.entry.ensures) c.take_node.ensures (ap not c.if-not-take_node.true)

pub loop-i-preserved : goal.loop-i-preserved
loop-i-preserved g c = taken_next c.requires.places_stand c.loop-i.invariant (omega arith) (c.from.ensures ∙ c.entry.ensures) c.take_node.ensures (ap not c.if-not-take_node.false)

pub returns : goal.returns
returns g c = all-taken c.requires.places_stand c.loop-i.invariant (omega arith) (omega arith)
