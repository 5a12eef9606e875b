-- `opening::open_placed_shared` meets its contract: refusal 3, else what `test_tables` says.
-- Rests on Opening.
use Rattle.std.proofs.Common.{rules}
use Rattle.opening.proofs.Opening.{no_room-said, room-said}
use Rattle.opening.proofs.open_placed_shared.Goals as goal

pub returns-then-area-at : goal.returns-then-area-at
returns-then-area-at c = no_room-said c.requires _ c.if-area-at.true

pub returns : goal.returns
returns c = room-said c.requires _ (search rules) c.test_tables.ensures
