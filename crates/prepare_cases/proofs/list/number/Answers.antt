use Rattle.std.proofs.Common.{arith, rules}
use Rattle.prepare_cases.proofs.Numbers.{no_digit, digit_more, all_digits}
use Rattle.prepare_cases.proofs.list.number.Goals as goal

pub loop-x-init : goal.loop-x-init
loop-x-init c = (search rules, no_digit c.args.word.now)

pub loop-x-preserved : goal.loop-x-preserved
loop-x-preserved c = (search rules, digit_more c.args.word.now c.loop-x.x-index c.loop-x.invariant.1 c.digit.ensures)

pub returns : goal.returns
returns c = all_digits c.args.word.now c.loop-x.x-index (omega arith) c.loop-x.invariant.1
