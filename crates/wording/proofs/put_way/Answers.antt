-- `wording::put_way` meets its contract: each answer is shown as paper shows it, a path by the words in which its steps stand.
-- Rests on text's Printed.
use Rattle.std.proofs.Common.{arith}
use Rattle.paper.specs.Text.{show_way}
use Rattle.refusals.specs.Said.{number_of, place_of}
use Rattle.text.proofs.Printed.{refused_short}
use Rattle.wording.proofs.put_way.Goals as goal

pub returns-in-Ok-None-clause-put : goal.returns-in-Ok-None-clause-put
unfolding show_way
returns-in-Ok-None-clause-put c = rw (c.in-Ok-None.is, rw c.in-Ok-None.is at c.in-Ok-None.field-0-is) c.put_text.ensures

pub returns-in-Err-clause-put : goal.returns-in-Err-clause-put
unfolding show_way
returns-in-Err-clause-put c = rw c.in-Err.is c.put_refusal.ensures

pub returns-in-Err-clause-upper_bound : goal.returns-in-Err-clause-upper_bound
returns-in-Err-clause-upper_bound c = omega (arith, c.put_refusal.ensures.ends, refused_short (number_of c.in-Err.x) (place_of c.in-Err.x))
