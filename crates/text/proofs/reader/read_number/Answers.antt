-- `text::reader::read_number` meets its contract: each way out is one outcome of paper's tests.
-- Rests on Numbers.
use Rattle.std.proofs.Common.{arith, ◌∙◌}
use Rattle.std.proofs.lemmas.Bool.Decides.{nat_tests}
use Rattle.text.proofs.Numbers.{no_number, one_digit, needless_zero, more_digits}
use Rattle.text.proofs.reader.read_number.Goals as goal

pub returns-then-is_empty : goal.returns-then-is_empty
returns-then-is_empty c = no_number _ (grind (arith, nat_tests))

pub returns-then-text-eq48 : goal.returns-then-text-eq48
returns-then-text-eq48 c = needless_zero _ c.if-text-gt1.true c.if-text-eq48.true

pub returns : goal.returns
returns c = c.value_of.ensures ∙ grind (arith, nat_tests, one_digit, more_digits)
