-- `text::printer::put_refused_line` meets its contract: the refusal, and then a newline; there is room for both.
-- Rests on Printed.
use Rattle.std.proofs.Common.{arith}
use Rattle.text.proofs.Printed.{put_then, refused_short}
use Rattle.text.proofs.printer.put_refused_line.Goals as goal

pub put_text-requires : goal.put_text-requires
put_text-requires c = omega (arith, refused_short c.args.number c.args.place)

pub returns : goal.returns
returns c = put_then c.put_refused-end.ensures c.put_text.ensures
