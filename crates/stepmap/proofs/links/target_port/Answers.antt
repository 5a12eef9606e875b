-- `stepmap::links::target_port` meets its contract: the first port of the link's node, and the offset.
-- Rests on Marking and Fields.
use Rattle.std.proofs.Common.{arith}
use Rattle.stepmap.proofs.Fields.{in_below}
use Rattle.stepmap.proofs.Marking.{node-below, target}
use Rattle.stepmap.proofs.links.target_port.Goals as goal

pub offset_bounds-firsts-to : goal.offset_bounds-firsts-to
offset_bounds-firsts-to c = omega (arith, node-below c.requires.has_link c.requires.firsts c.requires.k_value, c.link_to-to.ensures, c.requires.has_link.inside)

pub bounds-firsts-to : goal.bounds-firsts-to
bounds-firsts-to c = omega (arith, node-below c.requires.has_link c.requires.firsts c.requires.k_value, c.link_to-to.ensures, c.requires.firsts.room)

pub overflow_add-result : goal.overflow_add-result
overflow_add-result c = let small = c.type_inv.firsts c.link_to-to.result in
    let below = in_below c.args.b.now c.type_inv.b c.args.k in
    omega (arith, c.from.ensures, c.link_in.ensures)

pub returns : goal.returns
returns c = target c.requires.has_link c.requires.firsts c.requires.k_value c.link_to-to.ensures c.from.ensures c.link_in.ensures
