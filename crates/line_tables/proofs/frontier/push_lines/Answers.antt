-- `line_tables::frontier::push_lines` meets its contract: after i lines the area is as i lines pushed leave it.
-- Rests on Leaves.
use Rattle.line_tables.proofs.Leaves.{step_pushed, none-pushed}
use Rattle.line_tables.proofs.frontier.push_lines.Goals as goal

pub loop-pushed-init : goal.loop-pushed-init
loop-pushed-init c = none-pushed c.args.area.now c.args.room c.args.first c.args.list

pub loop-pushed-preserved : goal.loop-pushed-preserved
loop-pushed-preserved c = step_pushed c.args.area.now c.args.room c.args.first c.args.list c.loop-pushed.pushed c.loop-pushed.invariant c.push_line.ensures
