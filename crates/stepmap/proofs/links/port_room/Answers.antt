-- `stepmap::links::port_room` meets its contract: zeros read as 0.
-- Rests on lists.Upto.
use Rattle.std.proofs.Common.{refl}
use Rattle.lists.proofs.Upto.{get_or-zeros}
use Rattle.stepmap.proofs.links.port_room.Goals as goal

pub returns : goal.returns
returns c = record { size = refl; zeros = get_or-zeros 4096 }
