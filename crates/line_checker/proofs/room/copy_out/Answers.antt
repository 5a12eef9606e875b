-- `line_checker::room::copy_out` meets its contract: a copy over the first n words stores them there.
-- Rests on the kit's law of stores in a row.
use Rattle.std.proofs.Common.{arith}
use Rattle.std.proofs.lemmas.Grind.{common_steps}
use Rattle.std.proofs.lemmas.List.Edits.{sets-eq}
use Rattle.line_checker.proofs.room.copy_out.Goals as goal

pub returns : goal.returns
returns c = grind (arith, common_steps, sets-eq)
