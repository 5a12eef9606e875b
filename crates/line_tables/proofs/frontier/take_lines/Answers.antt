-- `line_tables::frontier::take_lines` meets its contract: after i lines the area is as i lines taken leave it.
-- Rests on Leaves.
use Rattle.line_tables.proofs.Leaves.{step-taken, step-position, none-taken, none-met}
use Rattle.line_tables.proofs.frontier.take_lines.Goals as goal

pub loop-taken-init : goal.loop-taken-init
loop-taken-init c = (none-met c.args.area.now c.args.room c.args.first c.args.list c.args.b.now c.args.at, none-taken c.args.area.now c.args.room c.args.first c.args.list)

pub loop-taken-preserved : goal.loop-taken-preserved
loop-taken-preserved c = (
  step-position c.args.area.now c.args.room c.args.first c.args.list c.loop-taken.taken c.loop-taken.invariant.1 c.args.b.now c.args.at c.loop-taken.invariant.0 c.take_line-position.ensures.0,
  step-taken c.args.area.now c.args.room c.args.first c.args.list c.loop-taken.taken c.loop-taken.invariant.1 c.take_line-position.ensures.1,
)
