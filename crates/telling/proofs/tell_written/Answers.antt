-- `telling::tell_written` meets its contract: how many are written, that there are none to write, or a refusal.
-- Rests on paper's Exports.
use Rattle.std.proofs.Common.{refl}
use Rattle.paper.specs.Exports.{in_shown, in_written, tell}
use Rattle.telling.proofs.tell_written.Goals as goal

pub returns-in-Ok-Some-clause-written : goal.returns-in-Ok-Some-clause-written
unfolding tell in_written
returns-in-Ok-Some-clause-written c = rw (c.in-Ok-Some.is, rw c.in-Ok-Some.is at c.in-Ok-Some.field-0-is) refl

pub returns-in-Ok-Some-clause-shown : goal.returns-in-Ok-Some-clause-shown
unfolding tell in_shown
returns-in-Ok-Some-clause-shown c = rw (c.in-Ok-Some.is, rw c.in-Ok-Some.is at c.in-Ok-Some.field-0-is) refl

pub returns-in-Ok-None-clause-written : goal.returns-in-Ok-None-clause-written
unfolding tell in_written
returns-in-Ok-None-clause-written c = rw (c.in-Ok-None.is, rw c.in-Ok-None.is at c.in-Ok-None.field-0-is) refl

pub returns-in-Ok-None-clause-shown : goal.returns-in-Ok-None-clause-shown
unfolding tell in_shown
returns-in-Ok-None-clause-shown c = rw (c.in-Ok-None.is, rw c.in-Ok-None.is at c.in-Ok-None.field-0-is) refl

pub returns-in-Err-clause-written : goal.returns-in-Err-clause-written
unfolding tell
returns-in-Err-clause-written c = let told = c.tell_refusal.ensures in rw (c.in-Err.is, told.0, told.1, told.2) refl

pub returns-in-Err-clause-shown : goal.returns-in-Err-clause-shown
unfolding tell
returns-in-Err-clause-shown c = let told = c.tell_refusal.ensures in rw (c.in-Err.is, told.0, told.1, told.2) refl
