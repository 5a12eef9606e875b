-- `byte_calls::line_convex_checker::view_at_port` meets its contract: a refusal, or where the port's lines start in the area.
-- Rests on opening's Using and calling's ViewCalls.
use Rattle.std.proofs.Common.{rules}
use Rattle.std.proofs.lemmas.Result.{err_from_is_err_and}
use Rattle.std.specs.Prelude.{Ok, Err}
use Rattle.opening.proofs.Using.{usable-before}
use Rattle.calling.proofs.ViewCalls.{opened, view_refused, view_unknown, view_answered}
use Rattle.byte_calls.proofs.line_convex_checker.view_at_port.Goals as goal

pub returns-in_err-at : goal.returns-in_err-at
returns-in_err-at c = let p = err_from_is_err_and c.from_residual.result c.from_residual.ensures.1 in
    rw (p.1, p.2) (view_refused (opened c.args.map.now c.args.area.now (Err c.in_err-at.field-0.0) c.in_err-at.ensures) _)

pub returns-then-at-port : goal.returns-then-at-port
returns-then-at-port c = view_unknown (opened c.args.map.now c.args.area.now (Ok c.in_ok-at.at) c.in_ok-at.ensures) _ c.if-at-port.true

pub view_start-offset-requires : goal.view_start-offset-requires
view_start-offset-requires c = let known = opened c.args.map.now c.args.area.now (Ok c.in_ok-at.at) c.in_ok-at.ensures in
    record { usable = usable-before known; port_lt_ports = search rules }

pub line_count-count-requires : goal.line_count-count-requires
line_count-count-requires c = let ready = usable-before (opened c.args.map.now c.args.area.now (Ok c.in_ok-at.at) c.in_ok-at.ensures) in
    record { read = ready.read; links = ready.links; known = search rules }

pub returns : goal.returns
returns c = view_answered (opened c.args.map.now c.args.area.now (Ok c.in_ok-at.at) c.in_ok-at.ensures) _ c.if-at-port.false
    c.view_start-offset.ensures c.line_count-count.ensures
