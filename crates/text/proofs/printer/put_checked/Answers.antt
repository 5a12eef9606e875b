-- `text::printer::put_checked` meets its contract: the reply, and then a space with the count; there is room for both.
-- Rests on Printed.
use Rattle.std.proofs.Common.{arith}
use Rattle.lists.specs.Ascii.{ascii}
use Rattle.paper.specs.Text.{decimal, show_line}
use Rattle.text.specs.Printed.{reply_of}
use Rattle.text.proofs.Printed.{put_both, reply-short}
use Rattle.text.proofs.printer.put_checked.Goals as goal

pub put_numbered-requires : goal.put_numbered-requires
put_numbered-requires c = omega (arith, reply-short (reply_of c.args.reply))

pub returns : goal.returns
unfolding show_line
returns c = put_both (ascii " ") (decimal c.args.count) c.put_reply-counted.ensures c.put_numbered.ensures
