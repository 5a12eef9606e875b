-- `line_lists::nodes_of_lines` meets its contract: each step finds ready what it asks, and the four come to the columns.
-- Rests on Whole.
use Rattle.counting_sort.proofs.Whole.{ready₁, zeros₁, ready₂}
use Rattle.line_lists.proofs.Reading.{sorting}
use Rattle.line_lists.proofs.Counted.{counted}
use Rattle.line_lists.proofs.Whole.{can_push, transposed}
use Rattle.line_lists.proofs.nodes_of_lines.Goals as goal

pub tally-requires : goal.tally-requires
tally-requires c = let ready = sorting c.requires in
    record { keyed = ready₁ ready c.fill.ensures; area_value = zeros₁ ready c.fill.ensures }

pub accumulate-requires : goal.accumulate-requires
accumulate-requires c = ready₂ (sorting c.requires) c.fill.ensures c.tally.ensures

pub push_nodes-requires : goal.push_nodes-requires
push_nodes-requires c = can_push c.requires (counted (sorting c.requires) c.fill.ensures c.tally.ensures c.accumulate.ensures)

pub returns : goal.returns
returns c = transposed c.requires (counted (sorting c.requires) c.fill.ensures c.tally.ensures c.accumulate.ensures) c.push_nodes.ensures
