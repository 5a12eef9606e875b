-- `records::bad::stands_on` meets its contract: a position stands on a line if the lookup finds it there.
-- Rests on Standing.
use Rattle.std.proofs.Common.{◌∙◌}
use Rattle.on_line.proofs.Along.{line_at}
use Rattle.records.proofs.Standing.{stands}
use Rattle.records.proofs.bad.stands_on.Goals as goal

pub index_on-requires : goal.index_on-requires
index_on-requires c = line_at c.requires.usable c.args.x c.requires.x_bound

pub returns : goal.returns
returns c = c.is_some.ensures ∙ stands c.requires.usable c.requires.x_bound c.args.pos _ c.index_on.ensures
