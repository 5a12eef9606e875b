-- `text::printer::put_decimal` meets its contract: a tenth of the number is put by its call of itself, and its last digit after that.
-- The measure is the number. Rests on Printed.
use Rattle.std.proofs.Common.{arith}
use Rattle.text.proofs.Printed.{put_digit, put_last, decimal-room}
use Rattle.text.proofs.printer.+put_decimal.Goals as goal

pub returns-then-n-lt10 : goal.returns-then-n-lt10
returns-then-n-lt10 t c = put_digit _ _ _ c.if-n-lt10.true

pub bounds-out-end : goal.bounds-out-end
bounds-out-end t c = omega (arith, decimal-room _ c.if-n-lt10.false (omega arith), c.put_decimal-end.ensures.ends, c.put_decimal-end.auto.out)

pub overflow_add-result-2 : goal.overflow_add-result-2
overflow_add-result-2 t c = omega (arith, decimal-room _ c.if-n-lt10.false (omega arith), c.put_decimal-end.ensures.ends)

pub returns : goal.returns
returns t c = put_last c.if-n-lt10.false (omega arith) c.put_decimal-end.ensures
