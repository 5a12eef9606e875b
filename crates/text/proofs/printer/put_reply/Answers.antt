-- `text::printer::put_reply` meets its contract: each way puts its own word.
-- Rests on Printed.
use Rattle.paper.specs.Text.{show_reply}
use Rattle.text.proofs.Printed.{reply-put}
use Rattle.text.proofs.printer.put_reply.Goals as goal

pub returns-then-reply : goal.returns-then-reply
unfolding show_reply
returns-then-reply c = reply-put c.if-reply.true c.put_text.ensures

pub returns : goal.returns
unfolding show_reply
returns c = reply-put c.if-reply.false c.put_text-2.ensures
