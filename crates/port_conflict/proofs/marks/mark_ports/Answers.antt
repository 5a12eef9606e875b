-- `port_conflict::marks::mark_ports` meets its contract: after i entries none is unknown, and exactly they are marked.
-- Rests on Marking.
use Rattle.std.proofs.Common.{ap, arith, not, ◌∙◌}
use Rattle.port_conflict.proofs.Marking.{marking_starts, marking_next, unknown_entry, all_known}
use Rattle.port_conflict.proofs.marks.mark_ports.Goals as goal

pub loop-i-init : goal.loop-i-init
loop-i-init g c = marking_starts c.args.area.now c.args.marks c.args.p c.requires c.fill.ensures _

pub returns-then-not-mark_port : goal.returns-then-not-mark_port
returns-then-not-mark_port g c = unknown_entry c.args.area.now c.args.marks c.args.p c.requires c.fill.ensures _ c.loop-i.invariant (omega arith)
    (c.from.ensures ∙ c.entry.ensures) c.mark_port.ensures (ap not c.if-not-mark_port.true)

pub loop-i-preserved : goal.loop-i-preserved
loop-i-preserved g c = marking_next c.args.area.now c.args.marks c.args.p c.requires c.fill.ensures _ c.loop-i.invariant (omega arith)
    (c.from.ensures ∙ c.entry.ensures) c.mark_port.ensures (ap not c.if-not-mark_port.false)

pub returns : goal.returns
returns g c = all_known c.args.area.now c.args.marks c.args.p c.requires c.fill.ensures _ c.loop-i.invariant (omega arith) (omega arith)
