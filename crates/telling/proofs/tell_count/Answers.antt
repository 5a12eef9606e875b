-- `telling::tell_count` meets its contract: the count, or a refusal.
-- Rests on paper's Exports.
use Rattle.std.proofs.Common.{refl}
use Rattle.paper.specs.Exports.{in_count, tell}
use Rattle.telling.proofs.tell_count.Goals as goal

pub returns-in-Ok : goal.returns-in-Ok
unfolding tell in_count
returns-in-Ok c = rw c.in-Ok.is refl

pub returns-in-Err : goal.returns-in-Err
unfolding tell
returns-in-Err c = let told = c.tell_refusal.ensures in rw (c.in-Err.is, told.0, told.1, told.2) refl
