-- `words::bytes::put_words` meets its contract. The loop: the first i words are put, and the rest of the bytes stand.
-- Rests on Turns.
use Rattle.std.proofs.Common.{refl, ◌∙◌}
use mathlib.Core.List.{flat_map}
use Rattle.paper.specs.Words.{bytes_from, put_words}
use Rattle.words.proofs.Turns.{put_again}
use Rattle.words.proofs.bytes.put_words.Goals as goal

pub loop-i-init : goal.loop-i-init
unfolding put_words bytes_from flat_map
loop-i-init c = refl

pub loop-i-preserved : goal.loop-i-preserved
loop-i-preserved c = c.put_field.ensures ∙ put_again _ _ _ c.loop-i-test.true c.loop-i.invariant
