-- `extension::grow::put_record` meets its contract: three words make the record, and no other word changes.
-- Rests on Putting.
use Rattle.extension.proofs.Putting.{record_put}
use Rattle.extension.proofs.grow.put_record.Goals as goal

pub returns : goal.returns
returns c = record_put c.args.room.now c.args.i c.args.line c.args.lowest c.args.highest c.requires.i_in_bounds
