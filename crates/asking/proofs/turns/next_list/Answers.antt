use Rattle.std.proofs.Common.{arith}
use Rattle.paper.specs.Text.{newline}
use Rattle.text.proofs.Split.{part-starts, part-within}
use Rattle.asking.specs.Says.{says_of}
use Rattle.asking.proofs.Lines.{turned}
use Rattle.asking.proofs.turns.next_list.Goals as goal

pub slice_bounds-answer_text-count : goal.slice_bounds-answer_text-count
slice_bounds-answer_text-count c = omega (arith, part-starts newline c.args.input.now c.args.at, c.line_end-end.ensures)

pub slice_bounds-answer_text-start : goal.slice_bounds-answer_text-start
slice_bounds-answer_text-start c = omega (arith, part-starts newline c.args.input.now c.args.at, c.line_end-end.ensures)

pub slice_bounds-answer_text-end : goal.slice_bounds-answer_text-end
slice_bounds-answer_text-end c =
    omega (arith, part-within newline c.args.input.now c.args.at (omega (arith, c.requires.at_in_bounds)), c.line_end-end.ensures)

pub returns : goal.returns
returns c =
    turned c.args.input.now c.args.at c.args.i c.requires.starts_line c.requires.at_in_bounds (says_of c.args.program) c.line_end-end.ensures
    c.answer_text-printed.ensures
