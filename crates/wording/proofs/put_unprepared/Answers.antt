-- `wording::put_unprepared` meets its contract: a refusal has its number and place, and a prepared map puts nothing.
-- Rests on Shown.
use Rattle.std.proofs.Common.{refl}
use Rattle.wording.specs.Shown.{refused_line}
use Rattle.wording.proofs.put_unprepared.Goals as goal

pub returns-in_default : goal.returns-in_default
unfolding refused_line
returns-in_default c = rw c.in_default.is (record { stands = refl; ends = refl })

pub returns : goal.returns
unfolding refused_line
returns c = rw c.in-Err.is (rw (c.number.ensures, c.place.ensures) at c.put_refused_line.ensures)
