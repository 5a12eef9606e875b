-- `words::section::copy` meets its contract. The loop: the first i words of the source stand at `dst` too, and the rest of the area stands.
-- Rests on Turns: what is still to be copied is not written over, since the two sections are apart.
use Rattle.words.proofs.Turns.{copy_again}
use Rattle.words.proofs.section.copy.Goals as goal

pub loop-i-preserved : goal.loop-i-preserved
loop-i-preserved c = copy_again _ _ _ _ c.requires.0 c.requires.2 _ c.loop-i-test.true c.loop-i.invariant
