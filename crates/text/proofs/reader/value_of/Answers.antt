-- `text::reader::value_of` meets its contract. The loop: what the digits say is what those left say after the value so far.
-- Rests on Numbers.
use Rattle.std.proofs.Common.{arith, drop, rules, sym, ◌+◌, ◌∙◌}
use Rattle.paper.specs.Text.{is_digit}
use Rattle.text.proofs.Numbers.{read_over, too_large, digit_none, digit_more}
use Rattle.text.proofs.reader.value_of.Goals as goal

pub returns-then-not-is_ascii_digit : goal.returns-then-not-is_ascii_digit
unfolding is_digit
returns-then-not-is_ascii_digit c =
    digit_none _ c.loop-x.x-index c.loop-x.value c.loop-x-test.true (sym c.is_ascii_digit.ensures.value ∙ c.if-not-is_ascii_digit.true)
    ∙ sym c.loop-x.invariant.1

pub returns-then-value-gt65535 : goal.returns-then-value-gt65535
unfolding is_digit
returns-then-value-gt65535 c = too_large _ (drop (c.loop-x.x-index + 1) c.args.text.now) (omega arith)
    ∙ sym (c.loop-x.invariant.1 ∙ digit_more c.args.text.now c.loop-x.x-index c.loop-x.value c.loop-x-test.true (sym c.is_ascii_digit.ensures.value ∙ c.if-not-is_ascii_digit.false) c.digit.ensures)

pub loop-x-preserved : goal.loop-x-preserved
unfolding is_digit
loop-x-preserved c = (
  search rules,
  c.loop-x.invariant.1 ∙ digit_more c.args.text.now c.loop-x.x-index c.loop-x.value c.loop-x-test.true (sym c.is_ascii_digit.ensures.value ∙ c.if-not-is_ascii_digit.false) c.digit.ensures,
)

pub returns : goal.returns
returns c = read_over _ _ c.loop-x-test.false c.loop-x.invariant.0 ∙ sym c.loop-x.invariant.1
