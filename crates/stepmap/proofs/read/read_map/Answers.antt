-- `stepmap::read::read_map` meets its contract: each return is refusal 1, one of refusal 2's limits, or the sizes.
-- Rests on Reading and PortNumbers.
use Rattle.std.proofs.Common.{arith, sym, ◌∙◌}
use Rattle.stepmap.proofs.PortNumbers.{total}
use Rattle.stepmap.proofs.Reading.{formed-size, nodes-many, links-many, degree_large, ports-many, within, refused_1, refused_2, sized}
use Rattle.stepmap.proofs.read.read_map.Goals as goal

pub well_formed-requires : goal.well_formed-requires
well_formed-requires c = tt

pub returns-then-not-well_formed : goal.returns-then-not-well_formed
returns-then-not-well_formed c = refused_1 _ (sym c.well_formed-2.ensures ∙ c.if-not-well_formed.true)

pub node_count-n-requires : goal.node_count-n-requires
node_count-n-requires c = let formed = sym c.well_formed-2.ensures ∙ c.if-not-well_formed.false in
    omega (arith, formed-size c.args.b.now formed)

pub link_count-l-requires : goal.link_count-l-requires
link_count-l-requires c = let formed = sym c.well_formed-2.ensures ∙ c.if-not-well_formed.false in
    omega (arith, formed-size c.args.b.now formed)

pub returns-then-n-gt512 : goal.returns-then-n-gt512
returns-then-n-gt512 c = let formed = sym c.well_formed-2.ensures ∙ c.if-not-well_formed.false in
    refused_2 _ formed (nodes-many _ c.node_count-n.ensures c.if-n-gt512.true)

pub returns-then-l-gt2048 : goal.returns-then-l-gt2048
returns-then-l-gt2048 c = let formed = sym c.well_formed-2.ensures ∙ c.if-not-well_formed.false in
    refused_2 _ formed (links-many _ c.link_count-l.ensures c.if-l-gt2048.true)

pub degrees_within-requires : goal.degrees_within-requires
degrees_within-requires c = let formed = sym c.well_formed-2.ensures ∙ c.if-not-well_formed.false in
    omega (arith, formed-size c.args.b.now formed)

pub returns-then-not-degrees_within : goal.returns-then-not-degrees_within
returns-then-not-degrees_within c = let formed = sym c.well_formed-2.ensures ∙ c.if-not-well_formed.false in
    let large = sym c.degrees_within.ensures ∙ c.if-not-degrees_within.true in
    refused_2 _ formed (degree_large _ c.node_count-n.ensures large)

pub first_port-p-requires : goal.first_port-p-requires
first_port-p-requires c = let formed = sym c.well_formed-2.ensures ∙ c.if-not-well_formed.false in
    let size = formed-size c.args.b.now formed in
    (omega arith, omega arith)

pub returns-then-p-gt4096 : goal.returns-then-p-gt4096
returns-then-p-gt4096 c = let formed = sym c.well_formed-2.ensures ∙ c.if-not-well_formed.false in
    let ports = total _ c.first_port-p.ensures c.node_count-n.ensures in
    refused_2 _ formed (ports-many _ ports c.if-p-gt4096.true)

pub returns : goal.returns
returns c = let formed = sym c.well_formed-2.ensures ∙ c.if-not-well_formed.false in
    let ports = total _ c.first_port-p.ensures c.node_count-n.ensures in
    let few = sym c.degrees_within.ensures ∙ c.if-not-degrees_within.false in
    sized _ c.node_count-n.ensures c.link_count-l.ensures ports formed (within _ c.node_count-n.ensures c.link_count-l.ensures ports c.if-n-gt512.false c.if-l-gt2048.false c.if-p-gt4096.false few)
