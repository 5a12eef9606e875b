-- `recorded::sections::section` meets its contract: each table's part is where its words in use stand.
-- Rests on Sections.
use Rattle.std.proofs.Common.{rules}
use Rattle.recorded.specs.Sections.{used_at}
use Rattle.recorded.proofs.sections.section.Goals as goal

pub returns : goal.returns
unfolding used_at
returns c = search rules
