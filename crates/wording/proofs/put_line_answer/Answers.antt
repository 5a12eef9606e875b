-- `wording::put_line_answer` meets its contract: each answer is shown as paper shows what it says.
-- Rests on paper's Text.
use Rattle.paper.specs.Text.{show_line}
use Rattle.wording.proofs.put_line_answer.Goals as goal

pub returns-in-Err : goal.returns-in-Err
unfolding show_line
returns-in-Err c = rw c.in-Err.is c.put_refusal.ensures
