-- `acceptance::entries::starts_well` meets its contract: the starts passed rise, and the first that does not decides.
-- Rests on Starts.
use Rattle.acceptance.proofs.Starts.{starts-late, starts_fall, starts-end}
use Rattle.acceptance.proofs.entries.starts_well.Goals as goal

pub returns-then-area-at-ne0 : goal.returns-then-area-at-ne0
returns-then-area-at-ne0 c = starts-late c.args.area.now c.args.at _ _ c.if-area-at-ne0.true

pub returns-then-area-at : goal.returns-then-area-at
returns-then-area-at c = starts_fall c.args.area.now c.args.at _ _ c.if-area-at-ne0.false c.loop-i-test.true c.if-area-at.true

pub returns : goal.returns
returns c = starts-end c.args.area.now c.args.at _ _ c.if-area-at-ne0.false c.loop-i.auto.i-end c.loop-i-test.false c.loop-i.invariant c.from.ensures
