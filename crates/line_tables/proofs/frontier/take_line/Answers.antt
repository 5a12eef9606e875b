-- `line_tables::frontier::take_line` meets its contract: the port and the position read are the link's.
-- Rests on Leaves.
use Rattle.std.proofs.Common.{◌∙◌}
use Rattle.line_tables.proofs.Leaves.{met-said, line_taken_lem}
use Rattle.line_tables.proofs.frontier.take_line.Goals as goal

pub returns : goal.returns
returns c = (
  c.above.ensures ∙ met-said c.args.b.now c.args.area.now c.args.at c.args.room c.args.place c.word_at-k.ensures c.link_from.ensures c.args.position,
  line_taken_lem c.args.area.now c.args.room c.args.place c.args.to c.word_at-k.ensures c.word_at-port.ensures c.pop_frontier-line.ensures.0 c.pop_frontier-line.ensures.1,
)
