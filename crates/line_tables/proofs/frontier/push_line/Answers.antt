-- `line_tables::frontier::push_line` meets its contract: the port read is the link's.
-- Rests on Leaves.
use Rattle.line_tables.proofs.Leaves.{line-pushed}
use Rattle.line_tables.proofs.frontier.push_line.Goals as goal

pub returns : goal.returns
returns c = line-pushed c.args.area.now c.args.room c.args.place c.args.here c.word_at-k.ensures c.word_at-port.ensures c.push_frontier.ensures
