-- `opening::open_placed` meets its contract: refusal 3, else what `test_tables` says, with the scratch at 0.
-- Rests on Opening.
use Rattle.std.proofs.Common.{arith, refl, rules}
use Rattle.opening.proofs.Opening.{no_room, room}
use Rattle.opening.proofs.open_placed.Goals as goal

pub returns-then-area-at : goal.returns-then-area-at
returns-then-area-at c = no_room c.requires _ c.if-area-at.true refl

pub clear_scratch-requires : goal.clear_scratch-requires
clear_scratch-requires c = record { ends = omega (arith, c.requires.placed); room = search rules }

pub returns : goal.returns
returns c = room c.requires _ (search rules) c.test_tables-tested.ensures c.clear_scratch.ensures
