-- `text::printer::put_text` meets its contract: the text stands in its place, and the rest stands.
-- Rests on Printed.
use Rattle.std.proofs.Common.{arith, rules, refl}
use Rattle.text.proofs.Printed.{put_here}
use Rattle.text.proofs.printer.put_text.Goals as goal

pub returns : goal.returns
returns c = record { stands = put_here _ _ _ _ (search rules) (omega arith) c.copy_from_slice.ensures.after; ends = refl }
