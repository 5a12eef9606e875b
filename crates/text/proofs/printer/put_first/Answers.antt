-- `text::printer::put_first` meets its contract: three words with their numbers, and then a newline; there is room for each.
-- Rests on Printed.
use Rattle.std.proofs.Common.{arith}
use Rattle.lists.specs.Ascii.{ascii}
use Rattle.paper.specs.Text.{decimal}
use Rattle.text.specs.Printed.{first_line}
use Rattle.text.proofs.Printed.{put_then, put_both, decimal-short}
use Rattle.text.proofs.printer.put_first.Goals as goal

pub put_numbered-lines-requires : goal.put_numbered-lines-requires
put_numbered-lines-requires c = omega (arith, decimal-short c.args.n)

pub put_numbered-newline-requires : goal.put_numbered-newline-requires
put_numbered-newline-requires c = omega (arith, decimal-short c.args.n, decimal-short c.args.l)

pub put_text-requires : goal.put_text-requires
put_text-requires c = omega (arith, decimal-short c.args.n, decimal-short c.args.l, decimal-short c.args.k)

pub returns : goal.returns
unfolding first_line
returns c = let two = put_both (ascii " links ") (decimal c.args.l) c.put_numbered-links.ensures c.put_numbered-lines.ensures in
    let three = put_both (ascii " lines ") (decimal c.args.k) two c.put_numbered-newline.ensures in
    put_then three c.put_text.ensures
