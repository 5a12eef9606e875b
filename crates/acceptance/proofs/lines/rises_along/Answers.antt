-- `acceptance::lines::rises_along` meets its contract: the positions passed rise, and the first that does not decides.
-- Rests on Rises.
use Rattle.std.proofs.Common.{arith, get_or}
use Rattle.acceptance.proofs.Rises.{fall, rose}
use Rattle.acceptance.proofs.lines.rises_along.Goals as goal

pub returns-then-positions-u : goal.returns-then-positions-u
returns-then-positions-u c = fall (λ v. get_or c.args.positions.now v 0) c.args.line.now c.loop-i.i c.loop-i.auto.i c.from-u.ensures c.from-v.ensures c.loop-i-test.true (omega (arith, c.if-positions-u.true))

pub returns : goal.returns
returns c = rose (λ v. get_or c.args.positions.now v 0) c.args.line.now c.loop-i-test.false c.loop-i.invariant
