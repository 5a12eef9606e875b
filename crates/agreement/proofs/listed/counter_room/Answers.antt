-- `agreement::listed::counter_room` meets its contract: zeros read as 0.
-- Rests on lists.Upto.
use Rattle.std.proofs.Common.{refl}
use Rattle.lists.proofs.Upto.{get_or-zeros}
use Rattle.agreement.proofs.listed.counter_room.Goals as goal

pub returns : goal.returns
returns c = (refl, get_or-zeros 2560)
