-- `text::printer::put_refused` meets its contract: the word with the number, and then a space with the place; there is room for both.
-- Rests on Printed.
use Rattle.std.proofs.Common.{arith}
use Rattle.lists.specs.Ascii.{ascii}
use Rattle.paper.specs.Text.{decimal, show_refused}
use Rattle.text.proofs.Printed.{put_both, decimal-short}
use Rattle.text.proofs.printer.put_refused.Goals as goal

pub put_numbered-requires : goal.put_numbered-requires
put_numbered-requires c = omega (arith, decimal-short c.args.number)

pub returns : goal.returns
unfolding show_refused
returns c = put_both (ascii " ") (decimal c.args.place) c.put_numbered-placed.ensures
    c.put_numbered.ensures
