-- `opening::ends::clear_scratch` meets its contract: the words of the scratch, up to its end.
-- Rests on the contract of fill.
use Rattle.opening.specs.Opened.{scratch_zeroed}
use Rattle.opening.proofs.ends.clear_scratch.Goals as goal

pub returns : goal.returns
unfolding scratch_zeroed
returns c = c.fill.ensures
