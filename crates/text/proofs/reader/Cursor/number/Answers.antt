-- `text::reader::Cursor::number` meets its contract: the part from the cursor on is within the line, and is read.
-- Rests on Split and Numbers.
use Rattle.std.proofs.Common.{arith, ◌∙◌}
use Rattle.paper.specs.Text.{space}
use Rattle.text.proofs.Numbers.{number_at_lem}
use Rattle.text.proofs.Split.{part-starts, part-within}
use Rattle.text.proofs.reader.Cursor.number.Goals as goal

pub slice_bounds-read_number-count : goal.slice_bounds-read_number-count
slice_bounds-read_number-count c = omega (arith, part-starts space c.args.line.now c.args.self.at, c.part_end-end.ensures)

pub slice_bounds-read_number-start : goal.slice_bounds-read_number-start
slice_bounds-read_number-start c = omega (arith, part-starts space c.args.line.now c.args.self.at, c.part_end-end.ensures)

pub slice_bounds-read_number-end : goal.slice_bounds-read_number-end
slice_bounds-read_number-end c = omega (arith, part-within space c.args.line.now c.args.self.at c.requires, c.part_end-end.ensures)

pub returns-in_err-number : goal.returns-in_err-number
returns-in_err-number c = c.from_residual.ensures ∙ number_at_lem _ c.args.self.at c.part_end-end.ensures c.in_err-number.ensures

pub overflow_add-result : goal.overflow_add-result
overflow_add-result c = omega (arith, part-within space c.args.line.now c.args.self.at c.requires, c.part_end-end.ensures)

pub returns : goal.returns
returns c = number_at_lem _ c.args.self.at c.part_end-end.ensures c.in_ok-number.ensures
