-- `convex::line_convex_checker::view_lines_at_port` meets its contract: a part of no words on a refusal, else the part that holds the lines; and
-- where it starts.
-- Rests on opening's Using and calling's ViewCalls.
use Rattle.std.proofs.Common.{arith, refl, rules, ◌∙◌}
use Rattle.std.specs.Prelude.{Ok}
use Rattle.opening.proofs.Using.{usable-before}
use Rattle.calling.proofs.ViewCalls.{opened, part_of_none, part_unknown, part_answered, view_words, view-place}
use Rattle.convex.proofs.line_convex_checker.view_lines_at_port.Goals as goal

pub returns-in_default : goal.returns-in_default
returns-in_default c = let known = opened c.args.map.now c.args.area.now c.open_shared.result c.open_shared.ensures in
    let is = part_of_none c.open_shared.result c.in_default.not-Ok known c.args.port in
    record { result_value = view_words c.args.map.now c.args.area.now c.args.port is; starts_at = (refl, omega (arith, view-place c.args.map.now c.args.area.now c.args.port is)) }

pub returns-then-at-port : goal.returns-then-at-port
returns-then-at-port c = let known = opened c.args.map.now c.args.area.now (Ok c.in-Ok.at) c.in-Ok.ensures in
    let is = part_unknown known c.args.port c.if-at-port.true in
    record { result_value = view_words c.args.map.now c.args.area.now c.args.port is; starts_at = (refl, omega (arith, view-place c.args.map.now c.args.area.now c.args.port is)) }

pub lines_at_port-requires : goal.lines_at_port-requires
lines_at_port-requires c = let known = opened c.args.map.now c.args.area.now (Ok c.in-Ok.at) c.in-Ok.ensures in
    record { usable = usable-before known; port_lt_ports = search rules }

pub returns : goal.returns
returns c = let known = opened c.args.map.now c.args.area.now (Ok c.in-Ok.at) c.in-Ok.ensures in
    let is = part_answered known c.args.port c.if-at-port.false in
    record { result_value = c.lines_at_port.ensures.result_value ∙ view_words c.args.map.now c.args.area.now c.args.port is; starts_at = (c.lines_at_port.ensures.starts_at.0, omega (arith, c.lines_at_port.ensures.starts_at.1, view-place c.args.map.now c.args.area.now c.args.port is)) }
