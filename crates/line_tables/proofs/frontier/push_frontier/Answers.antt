-- `line_tables::frontier::push_frontier` meets its contract.
-- Rests on Leaves.
use Rattle.line_tables.proofs.Leaves.{push-written}
use Rattle.line_tables.proofs.frontier.push_frontier.Goals as goal

pub returns : goal.returns
returns c = push-written c.args.area.now c.args.room c.args.port c.args.line c.from.ensures
