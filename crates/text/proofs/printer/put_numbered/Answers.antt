-- `text::printer::put_numbered` meets its contract: the text, and then the number.
-- Rests on Printed.
use Rattle.text.proofs.Printed.{put_then}
use Rattle.text.proofs.printer.put_numbered.Goals as goal

pub returns : goal.returns
returns c = put_then c.put_text-digits.ensures c.put_decimal.ensures
