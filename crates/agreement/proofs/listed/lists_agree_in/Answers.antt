-- `agreement::listed::lists_agree_in` meets its contract: what is grouped by node is compared with the nodes' own lists.
-- Rests on Matched.
use Rattle.agreement.proofs.Matched.{lists_grouping, lists_matching, lists-told}
use Rattle.agreement.proofs.listed.lists_agree_in.Goals as goal

pub group_by-requires : goal.group_by-requires
group_by-requires c = lists_grouping c.requires c.line_numbers.ensures c.put_in.ensures

pub same_groups-requires : goal.same_groups-requires
same_groups-requires c = lists_matching c.requires c.line_numbers.ensures c.put_in.ensures c.group_by.new.room c.group_by.ensures

pub returns : goal.returns
returns c = lists-told c.requires c.line_numbers.ensures c.put_in.ensures c.group_by.new.room c.group_by.ensures c.same_groups.ensures
