-- `agreement::listed::line_numbers` meets its contract: the numbers of the lines passed stand at the front.
-- Rests on Line.
use Rattle.std.proofs.Common.{arith, refl}
use mathlib.Core.List.{flat_map}
use Rattle.agreement.specs.Lists.{line_numbers}
use Rattle.agreement.proofs.Line.{rises, ends, numbers_next}
use Rattle.agreement.proofs.listed.line_numbers.Goals as goal

pub loop-x-init : goal.loop-x-init
unfolding line_numbers flat_map
loop-x-init c = refl

pub fill-requires : goal.fill-requires
fill-requires c = omega (
  arith,
  rises c.requires.tables c.loop-x-test.true c.word_at-from.ensures c.word_at-to.ensures,
  ends c.requires.tables c.loop-x-test.true c.word_at-from.ensures c.word_at-to.ensures,
)

pub loop-x-preserved : goal.loop-x-preserved
loop-x-preserved c =
    numbers_next c.requires.tables c.loop-x-test.true c.word_at-from.ensures c.word_at-to.ensures c.args.numbers.now c.loop-x.invariant c.fill.ensures
