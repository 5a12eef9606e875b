-- `telling::tell_order` meets its contract: yes or no, or a refusal.
-- Rests on paper's Exports.
use Rattle.std.proofs.Common.{refl}
use Rattle.paper.specs.Exports.{in_reply, tell}
use Rattle.telling.proofs.tell_order.Goals as goal

pub returns-in-Ok-true : goal.returns-in-Ok-true
unfolding tell in_reply
returns-in-Ok-true c = rw (c.in-Ok-true.is, c.in-Ok-true.field-0-test) refl

pub returns-in-Ok-false : goal.returns-in-Ok-false
unfolding tell in_reply
returns-in-Ok-false c = rw (c.in-Ok-false.is, c.in-Ok-false.field-0-test) refl

pub returns-in-Err : goal.returns-in-Err
unfolding tell
returns-in-Err c = let told = c.tell_refusal.ensures in rw (c.in-Err.is, told.0, told.1, told.2) refl
