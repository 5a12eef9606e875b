-- `wording::put_answers` meets its contract: four texts one after the other; there is room for each.
-- Rests on text's Printed.
use Rattle.std.proofs.Common.{arith}
use Rattle.text.proofs.Printed.{put_then, line-short}
use Rattle.answers.specs.Said.{line_said}
use Rattle.wording.specs.Shown.{both_checks}
use Rattle.wording.proofs.put_answers.Goals as goal

pub put_text-ordered-requires : goal.put_text-ordered-requires
put_text-ordered-requires c = omega (arith, line-short (line_said c.args.line))

pub put_order_answer-requires : goal.put_order_answer-requires
put_order_answer-requires c = omega (arith, line-short (line_said c.args.line))

pub returns : goal.returns
unfolding both_checks
returns c = put_then (put_then (put_then c.put_text-checked.ensures c.put_line_answer-between.ensures) c.put_text-ordered.ensures)
    c.put_order_answer.ensures
