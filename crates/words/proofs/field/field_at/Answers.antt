-- `words::field::field_at` meets its contract: the two bytes are the word.
-- Rests on paper's `word`.
use Rattle.std.proofs.Common.{arith}
use Rattle.paper.specs.Map.{word}
use Rattle.words.proofs.field.field_at.Goals as goal

pub returns : goal.returns
unfolding word
returns c = omega arith
