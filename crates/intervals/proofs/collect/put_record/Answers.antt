-- `intervals::collect::put_record` meets its contract: three stores are one record.
-- Rests on Buffer.
use Rattle.intervals.proofs.Buffer.{put_is}
use Rattle.intervals.proofs.collect.put_record.Goals as goal

pub returns : goal.returns
returns c = put_is c.args.records.now c.args.i c.args.line c.args.low c.args.high
