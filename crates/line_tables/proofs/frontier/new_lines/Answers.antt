-- `line_tables::frontier::new_lines` meets its contract, case by case.
-- Rests on Leaves.
use Rattle.line_tables.proofs.Leaves.{more_out, no_link, enough_taken}
use Rattle.line_tables.proofs.frontier.new_lines.Goals as goal

pub returns-then-taken-outgoing : goal.returns-then-taken-outgoing
returns-then-taken-outgoing c = more_out c.args.taken c.args.outgoing c.if-taken-outgoing.true

pub returns-then-taken-eq0 : goal.returns-then-taken-eq0
returns-then-taken-eq0 c = no_link c.args.taken c.args.outgoing c.if-taken-outgoing.false c.if-taken-eq0.true

pub returns-else-taken-eq0 : goal.returns-else-taken-eq0
returns-else-taken-eq0 c = enough_taken c.args.taken c.args.outgoing c.if-taken-outgoing.false c.if-taken-eq0.false
