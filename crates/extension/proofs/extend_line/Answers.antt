-- `extension::extend_line` meets its contract: a line without a mark gets a new record, else its own grows or stops it.
-- Rests on Extending.
use Rattle.std.proofs.Common.{ap, arith, not}
use Rattle.tables.proofs.Words.{nodes-span}
use Rattle.extension.proofs.Extending.{few-made, room-there, new_record, can_grow, grown_record, stopped_record}
use Rattle.extension.proofs.extend_line.Goals as goal

-- ---- the line's mark and slot stand in the area
-- ---- no mark
pub put_record-requires-clause-i_in_bounds : goal.put_record-requires-clause-i_in_bounds
put_record-requires-clause-i_in_bounds c = room-there c.requires.usable c.requires.line_ready c.word_at.ensures c.if-word_at-eq0.true

pub overflow_add-result : goal.overflow_add-result
overflow_add-result c = omega (arith, few-made c.requires.usable c.requires.line_ready.own, c.requires.usable.read.few-nodes, c.requires.usable.read.few-links)

pub returns-then-word_at-eq0 : goal.returns-then-word_at-eq0
returns-then-word_at-eq0 c = new_record c.requires.usable c.requires.line_ready c.word_at.ensures c.if-word_at-eq0.true c.put_record.ensures

-- ---- a mark: the line's nodes are handed on
pub entries-nodes-requires : goal.entries-nodes-requires
entries-nodes-requires c = nodes-span c.requires.usable c.args.x c.requires.line_ready.known

pub grow_record-requires : goal.grow_record-requires
grow_record-requires c = let all = can_grow c.requires.usable c.requires.line_ready c.word_at.ensures c.if-word_at-eq0.false c.word_at-slot.ensures c.entries-nodes.ensures in record { line = all.0; growing = all.1 }

pub returns-then-not-grow_record : goal.returns-then-not-grow_record
returns-then-not-grow_record c = stopped_record c.requires.usable c.requires.line_ready c.word_at.ensures c.if-word_at-eq0.false c.word_at-slot.ensures c.entries-nodes.ensures c.grow_record.ensures (ap not c.if-not-grow_record.true)

pub returns : goal.returns
returns c = grown_record c.requires.usable c.requires.line_ready c.word_at.ensures c.if-word_at-eq0.false c.word_at-slot.ensures c.entries-nodes.ensures c.grow_record.ensures (ap not c.if-not-grow_record.false)
