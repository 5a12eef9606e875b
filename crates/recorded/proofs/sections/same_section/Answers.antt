-- `recorded::sections::same_section` meets its contract: where no table has the number it answers false.
-- Rests on Used.
use Rattle.recorded.proofs.Used.{not_so}
use Rattle.recorded.proofs.sections.same_section.Goals as goal

pub returns-in_default : goal.returns-in_default
returns-in_default c = not_so
