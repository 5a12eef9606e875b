-- `acceptance::entries::tables_known` meets its contract: each test says one sentence, and together they say all four.
-- Rests on Known.
use Rattle.std.proofs.Common.{ap, not}
use Rattle.agreement.specs.Tables.{entry_count, node_start, line_start}
use Rattle.acceptance.proofs.Known.{starts-told, entries-told, node-starts_bad, line-starts_bad, lines_bad, all_known}
use Rattle.acceptance.proofs.entries.tables_known.Goals as goal

pub returns-then-not-starts_well : goal.returns-then-not-starts_well
returns-then-not-starts_well c = node-starts_bad c.args.area.now c.args.at c.args.k (starts-told (node_start c.args.area.now c.args.at) _ _ c.starts_well.ensures) (ap not c.if-not-starts_well.true)

pub returns-then-not-starts_well-2 : goal.returns-then-not-starts_well-2
returns-then-not-starts_well-2 c = line-starts_bad c.args.area.now c.args.at c.args.k
    (starts-told (node_start c.args.area.now c.args.at) _ _ c.starts_well.ensures) (ap not c.if-not-starts_well.false)
    (starts-told (line_start c.args.area.now c.args.at) _ _ c.starts_well-2.ensures) (ap not c.if-not-starts_well-2.true)

pub returns-then-not-entries_below : goal.returns-then-not-entries_below
returns-then-not-entries_below c = lines_bad c.args.area.now c.args.at c.args.k
    (starts-told (node_start c.args.area.now c.args.at) _ _ c.starts_well.ensures) (ap not c.if-not-starts_well.false)
    (starts-told (line_start c.args.area.now c.args.at) _ _ c.starts_well-2.ensures) (ap not c.if-not-starts_well-2.false)
    (entries-told c.args.area.now c.args.at.lines (entry_count c.args.at c.args.k) c.args.k c.entries_below.ensures) (ap not c.if-not-entries_below.true)

pub returns : goal.returns
returns c = all_known c.args.area.now c.args.at c.args.k
    (starts-told (node_start c.args.area.now c.args.at) _ _ c.starts_well.ensures) (ap not c.if-not-starts_well.false)
    (starts-told (line_start c.args.area.now c.args.at) _ _ c.starts_well-2.ensures) (ap not c.if-not-starts_well-2.false)
    (entries-told c.args.area.now c.args.at.lines (entry_count c.args.at c.args.k) c.args.k c.entries_below.ensures) (ap not c.if-not-entries_below.false)
    (entries-told c.args.area.now c.args.at.along (entry_count c.args.at c.args.k) c.args.at.sizes.nodes c.entries_below-2.ensures)
