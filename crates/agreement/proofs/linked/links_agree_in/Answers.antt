-- `agreement::linked::links_agree_in` meets its contract: links and neighbours, grouped by the node that they start at, are compared.
-- Rests on Matched.
use Rattle.agreement.proofs.Matched.{links_grouping, pairs_grouping, links_matching, links-told}
use Rattle.agreement.proofs.linked.links_agree_in.Goals as goal

pub group_by-requires : goal.group_by-requires
group_by-requires c = links_grouping c.requires c.link_ends.ensures.0 c.link_ends.ensures.1 c.neighbours.ensures.0 c.neighbours.ensures.1

pub group_by-requires-2 : goal.group_by-requires-2
group_by-requires-2 c = pairs_grouping c.requires c.link_ends.ensures.0 c.link_ends.ensures.1 c.neighbours.ensures.0 c.neighbours.ensures.1

pub same_groups-requires : goal.same_groups-requires
same_groups-requires c = links_matching c.requires c.link_ends.ensures.0 c.link_ends.ensures.1 c.neighbours.ensures.0 c.neighbours.ensures.1
    c.group_by.new.room c.group_by-2.new.room c.group_by.ensures c.group_by-2.ensures

pub returns : goal.returns
returns c = links-told c.requires c.link_ends.ensures.0 c.link_ends.ensures.1 c.neighbours.ensures.0 c.neighbours.ensures.1
    c.group_by.new.room c.group_by-2.new.room c.group_by.ensures c.group_by-2.ensures c.same_groups.ensures
