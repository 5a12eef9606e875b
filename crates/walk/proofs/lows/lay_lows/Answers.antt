-- `walk::lows::lay_lows` meets its contract: before record i those before it are stored.
-- Rests on Lowest.
use Rattle.walk.proofs.Lowest.{lows-none, low-inside, lows-next}
use Rattle.walk.proofs.lows.lay_lows.Goals as goal

pub loop-i-init : goal.loop-i-init
loop-i-init c = lows-none _ _ _

pub bounds-area-lows : goal.bounds-area-lows
bounds-area-lows c = low-inside c.args.area.now c.args.lows c.args.records.now c.loop-i.i c.loop-i.invariant c.from.ensures c.requires c.loop-i-test.true

pub loop-i-preserved : goal.loop-i-preserved
loop-i-preserved c = lows-next c.args.area.now c.args.lows c.args.records.now c.loop-i.i c.loop-i.invariant c.from.ensures
