-- `intervals::collect::widen` meets its contract: the smaller and the larger position are the widened record's.
-- Rests on Buffer.
use Rattle.intervals.proofs.Buffer.{widened_is}
use Rattle.intervals.proofs.collect.widen.Goals as goal

pub returns : goal.returns
returns c = widened_is c.args.records.now c.args.i c.args.pos c.min-low.ensures
    c.max-high.ensures c.put_record.ensures
