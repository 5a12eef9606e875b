-- `telling::tell_line` meets its contract: yes or no with the count, or a refusal.
-- Rests on paper's Exports.
use Rattle.std.proofs.Common.{refl}
use Rattle.paper.specs.Exports.{in_line_reply, tell}
use Rattle.telling.proofs.tell_line.Goals as goal

pub returns-in-Ok-Yes : goal.returns-in-Ok-Yes
unfolding tell in_line_reply
returns-in-Ok-Yes c = rw (c.in-Ok-Yes.is, rw c.in-Ok-Yes.is at c.in-Ok-Yes.field-0-is) refl

pub returns-in-Ok-No : goal.returns-in-Ok-No
unfolding tell in_line_reply
returns-in-Ok-No c = rw (c.in-Ok-No.is, rw c.in-Ok-No.is at c.in-Ok-No.field-0-is) refl

pub returns-in-Err : goal.returns-in-Err
unfolding tell
returns-in-Err c = let told = c.tell_refusal.ensures in rw (c.in-Err.is, told.0, told.1, told.2) refl
