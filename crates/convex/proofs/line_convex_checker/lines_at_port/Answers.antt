-- `convex::line_convex_checker::lines_at_port` meets its contract: 14 of the port, and its lines by counting links.
-- Rests on opening's Using and calling's LineCalls.
use Rattle.std.proofs.lemmas.Result.{err_from_is_err_and}
use Rattle.std.proofs.Common.{rules}
use Rattle.opening.proofs.Using.{usable-before}
use Rattle.calling.proofs.LineCalls.{port_refused, port_unknown, port_answered}
use Rattle.convex.proofs.line_convex_checker.lines_at_port.Goals as goal

pub returns-in_err-at : goal.returns-in_err-at
returns-in_err-at c = let p = err_from_is_err_and c.from_residual.result c.from_residual.ensures.1 in
    rw (p.1, p.2) (port_refused c.in_err-at.ensures _)

pub returns-then-at-port : goal.returns-then-at-port
returns-then-at-port c = port_unknown c.in_ok-at.ensures _ c.if-at-port.true

pub first_line-first-requires : goal.first_line-first-requires
first_line-first-requires c = let ready = usable-before c.in_ok-at.ensures in
    record { read = ready.read; links = ready.links; known = search rules }

pub line_count-count-requires : goal.line_count-count-requires
line_count-count-requires c = let ready = usable-before c.in_ok-at.ensures in
    record { read = ready.read; links = ready.links; known = search rules }

pub returns : goal.returns
returns c = port_answered c.in_ok-at.ensures _ (search rules) c.first_line-first.ensures c.line_count-count.ensures
