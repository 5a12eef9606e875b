-- `words::section::fill` meets its contract: the section, lent and filled, comes back as n stores of v.
-- Rests on Turns.
use Rattle.std.proofs.Common.{arith}
use Rattle.words.proofs.Turns.{filled}
use Rattle.words.proofs.section.fill.Goals as goal

pub returns : goal.returns
returns c = filled _ _ _ _ (omega arith) c.requires (c.fill.ensures.after (λ y e. e))
