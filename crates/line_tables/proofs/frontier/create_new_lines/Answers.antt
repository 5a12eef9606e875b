-- `line_tables::frontier::create_new_lines` meets its contract: after i words the first i new lines stand.
-- Rests on Leaves.
use Rattle.line_tables.proofs.Leaves.{create_again}
use Rattle.line_tables.proofs.frontier.create_new_lines.Goals as goal

pub loop-made-preserved : goal.loop-made-preserved
loop-made-preserved c = create_again _ _ _ _ c.loop-made.invariant
