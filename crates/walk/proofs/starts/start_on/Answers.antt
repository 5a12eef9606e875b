-- `walk::starts::start_on` meets its contract: the node after the position joins, or there is none.
-- Rests on Starting.
use Rattle.std.proofs.Common.{sym}
use Rattle.walk.proofs.Starting.{nobody_next, next-joins}
use Rattle.walk.proofs.starts.start_on.Goals as goal

pub join-requires : goal.join-requires
join-requires c = record { queued = c.requires.queued; v_lt_n = c.requires.known _ (sym c.in-Some.ensures) }

pub returns-in-None : goal.returns-in-None
returns-in-None c = nobody_next c.requires (sym c.in-None.ensures)

pub returns-in-Some : goal.returns-in-Some
returns-in-Some c = next-joins c.requires (sym c.in-Some.ensures) c.join.ensures
