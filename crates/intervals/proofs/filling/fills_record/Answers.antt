-- `intervals::filling::fills_record` meets its contract: the record's line and the positions are handed on as parts of the area.
-- Rests on Testing.
use Rattle.intervals.proofs.Testing.{count-inside, line-span, given, record_tested}
use Rattle.intervals.proofs.filling.fills_record.Goals as goal

pub word_at-count-requires : goal.word_at-count-requires
word_at-count-requires c = count-inside c.requires c.from-x.ensures c.word_at-low.ensures

pub entries-nodes-requires : goal.entries-nodes-requires
entries-nodes-requires c = line-span c.requires c.from-x.ensures c.word_at-low.ensures c.word_at-count.ensures

pub fills_line-requires : goal.fills_line-requires
fills_line-requires c = let all = given c.requires c.from-x.ensures c.word_at-low.ensures c.word_at-count.ensures c.entries-nodes.ensures in record { line = all.0; positions_value = all.1.0; le_count = all.1.1 }

pub returns : goal.returns
returns c = record_tested c.requires c.from-x.ensures c.word_at-low.ensures c.word_at-count.ensures c.entries-nodes.ensures
    c.word_at-high.ensures
    c.fills_line.ensures
