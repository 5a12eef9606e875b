-- `port_lines::lines_at_port` meets its contract: the part starts where the port's lines do, has a word for each of them, and is within the area.
-- Rests on PortLines and tables' Words.
use Rattle.std.proofs.Common.{ap₂, arith, refl, ℕ, ◌+◌, ◌-◌, ◌∙◌}
use lib.Seq.{slice}
use Rattle.tables.proofs.Words.{between}
use Rattle.port_lines.proofs.PortLines.{view-inside}
use Rattle.port_lines.proofs.lines_at_port.Goals as goal

pub overflow_add-result : goal.overflow_add-result
overflow_add-result c = omega (arith, view-inside c.requires.usable c.requires.port_lt_ports, c.view_start-from.ensures, c.line_count-count.ensures)

pub offset_bounds-area-from : goal.offset_bounds-area-from
offset_bounds-area-from c = omega (arith, view-inside c.requires.usable c.requires.port_lt_ports, c.view_start-from.ensures, c.line_count-count.ensures)

pub slice_bounds-result-end : goal.slice_bounds-result-end
slice_bounds-result-end c = omega (arith, view-inside c.requires.usable c.requires.port_lt_ports, c.view_start-from.ensures, c.line_count-count.ensures)

pub returns : goal.returns
returns c = let there =
    between (c.view_start-from.result + c.line_count-count.result - c.view_start-from.result) c.view_start-from.result (c.view_start-from.result + c.line_count-count.result) c.args.area.now refl
    ∙ ap₂ (λ (f k : ℕ). slice f (f + k) c.args.area.now) c.view_start-from.ensures c.line_count-count.ensures
    in
    record { result_value = there; starts_at = (refl, omega (arith, c.view_start-from.ensures)) }
