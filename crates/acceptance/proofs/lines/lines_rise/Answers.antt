-- `acceptance::lines::lines_rise` meets its contract: each line is lent between two line starts, and the first that does not rise decides.
-- Rests on agreement.Line.
use Rattle.std.proofs.Common.{ap, not, rules}
use Rattle.agreement.proofs.Line.{inside, line-placed, falls, rise_on}
use Rattle.acceptance.proofs.lines.lines_rise.Goals as goal

pub slice_bounds-rises_along-end : goal.slice_bounds-rises_along-end
slice_bounds-rises_along-end c =
    let fits = inside c.requires c.loop-x-test.true c.word_at.ensures c.word_at-in-loop-x.ensures in
    search rules

pub rises_along-requires : goal.rises_along-requires
rises_along-requires c = line-placed c.requires c.loop-x-test.true c.word_at.ensures c.word_at-in-loop-x.ensures

pub returns-then-not-rises_along : goal.returns-then-not-rises_along
returns-then-not-rises_along c = falls c.requires c.loop-x-test.true c.word_at.ensures c.word_at-in-loop-x.ensures c.rises_along.ensures (ap not c.if-not-rises_along.true)

pub loop-x-preserved : goal.loop-x-preserved
loop-x-preserved c = rise_on c.requires c.loop-x-test.true c.word_at.ensures c.word_at-in-loop-x.ensures c.rises_along.ensures (ap not c.if-not-rises_along.false) c.loop-x.invariant
