-- `records::inside::straddles` meets its contract: inside on some line, then what the lines outside say.
-- Rests on Slots.
use Rattle.records.proofs.Slots.{nowhere_inside, somewhere_inside}
use Rattle.records.proofs.inside.straddles.Goals as goal

pub returns-then-inside_on_some : goal.returns-then-inside_on_some
returns-then-inside_on_some c = somewhere_inside c.args.area.now c.args.words.now c.args.at c.args.slots c.args.v c.entries-lines.ensures c.word_at-pos.ensures c.inside_on_some.ensures c.if-inside_on_some.true c.outside_on_some.ensures

pub returns-else-inside_on_some : goal.returns-else-inside_on_some
returns-else-inside_on_some c = nowhere_inside c.args.area.now c.args.words.now c.args.at c.args.slots c.args.v c.entries-lines.ensures c.word_at-pos.ensures c.inside_on_some.ensures c.if-inside_on_some.false
