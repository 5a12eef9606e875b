-- `recorded::comparing::is_told` meets its contract: no word stands behind the numbers told.
-- Rests on Same.
use Rattle.std.proofs.Common.{◌∙◌}
use borrow.Author.Tests.{ne_eqb}
use Rattle.recorded.proofs.Same.{rest-short, no_more}
use Rattle.recorded.proofs.comparing.is_told.Goals as goal

pub returns-then-words-at : goal.returns-then-words-at
returns-then-words-at c = c.begins.ensures ∙ no_more c.args.words.now c.args.at c.args.told.now c.if-words-at.true

pub returns-else-words-at : goal.returns-else-words-at
returns-else-words-at c = ne_eqb _ _ c.if-words-at.false ∙ rest-short c.args.words.now c.args.at c.args.told.now c.if-words-at.false
