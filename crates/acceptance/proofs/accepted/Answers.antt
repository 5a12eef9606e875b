-- `acceptance::accepted` meets its contract: each refusal is a sentence of the definition that fails, and the last answer says them all.
-- Rests on Whole.
use Rattle.std.proofs.Common.{ap, arith, not}
use Rattle.acceptance.proofs.Whole.{linked, too_many, sized, unknown, unordered, not_rising, tables, lists_differ, accepted_if, as_accepted}
use Rattle.acceptance.proofs.accepted.Goals as goal

pub bounds-area-0 : goal.bounds-area-0
bounds-area-0 c = omega (arith, c.requires.placed, c.requires.room)

pub returns-then-k-at : goal.returns-then-k-at
returns-then-k-at c = as_accepted (too_many c.requires c.from-k.ensures (omega (arith, c.if-k-at.true)))

pub tables_known-requires : goal.tables_known-requires
tables_known-requires c = sized c.requires c.from-k.ensures (omega (arith, c.if-k-at.false))

pub returns-then-not-tables_known : goal.returns-then-not-tables_known
returns-then-not-tables_known c = as_accepted (unknown c.requires c.from-k.ensures c.tables_known.ensures (ap not c.if-not-tables_known.true))

pub returns-then-not-order_forward : goal.returns-then-not-order_forward
returns-then-not-order_forward c = as_accepted (unordered c.requires c.from-k.ensures c.order_forward.ensures (ap not c.if-not-order_forward.true))

pub lines_rise-requires : goal.lines_rise-requires
lines_rise-requires c = tables c.requires c.from-k.ensures (omega (arith, c.if-k-at.false)) c.tables_known.ensures (ap not c.if-not-tables_known.false)

pub returns-then-not-lines_rise : goal.returns-then-not-lines_rise
returns-then-not-lines_rise c = as_accepted (not_rising c.requires c.from-k.ensures c.lines_rise.ensures (ap not c.if-not-lines_rise.true))

pub lists_agree-requires : goal.lists_agree-requires
lists_agree-requires c = tables c.requires c.from-k.ensures (omega (arith, c.if-k-at.false)) c.tables_known.ensures (ap not c.if-not-tables_known.false)

pub returns-then-not-lists_agree : goal.returns-then-not-lists_agree
returns-then-not-lists_agree c = as_accepted
    (lists_differ c.requires c.from-k.ensures (omega (arith, c.if-k-at.false)) c.tables_known.ensures (ap not c.if-not-tables_known.false)
    c.lines_rise.ensures (ap not c.if-not-lines_rise.false) c.lists_agree.ensures (ap not c.if-not-lists_agree.true))

pub links_agree-requires : goal.links_agree-requires
links_agree-requires c = record { linked = linked c.requires; tables = tables c.requires c.from-k.ensures (omega (arith, c.if-k-at.false)) c.tables_known.ensures (ap not c.if-not-tables_known.false) }

pub returns : goal.returns
returns c = as_accepted
    (accepted_if c.requires c.from-k.ensures (omega (arith, c.if-k-at.false)) c.tables_known.ensures (ap not c.if-not-tables_known.false)
    c.lines_rise.ensures (ap not c.if-not-lines_rise.false) c.order_forward.ensures (ap not c.if-not-order_forward.false)
    c.lists_agree.ensures (ap not c.if-not-lists_agree.false) c.links_agree.ensures)
