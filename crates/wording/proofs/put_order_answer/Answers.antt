-- `wording::put_order_answer` meets its contract: each answer is shown as paper shows what it says.
-- Rests on Texts.
use Rattle.paper.specs.Text.{show_order}
use Rattle.wording.proofs.Texts.{reply-shown}
use Rattle.wording.proofs.put_order_answer.Goals as goal

pub returns-in-Ok : goal.returns-in-Ok
returns-in-Ok c = rw (c.in-Ok.is, reply-shown c.in-Ok.reply) c.put_reply.ensures

pub returns-in-Err : goal.returns-in-Err
unfolding show_order
returns-in-Err c = rw c.in-Err.is c.put_refusal.ensures
