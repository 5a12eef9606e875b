-- `recorded::sections::is_part` meets its contract: the part does not end before it begins, and is compared whole.
-- Rests on Used.
use Rattle.std.proofs.Common.{arith}
use Rattle.recorded.proofs.Used.{is-between}
use Rattle.recorded.proofs.sections.is_part.Goals as goal

pub returns : goal.returns
returns c = is-between c.args.words.now c.args.area.now c.requires (omega arith) c.is_list.ensures
