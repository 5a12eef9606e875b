-- `records::inside::inside` meets its contract: the node's lines are handed on as a part of the area.
-- Rests on Slots.
use Rattle.records.proofs.Slots.{node-inside}
use Rattle.records.proofs.inside.inside.Goals as goal

pub returns : goal.returns
returns c = node-inside c.args.area.now c.args.words.now c.args.at c.args.slots c.args.v c.entries-lines.ensures c.word_at-pos.ensures c.inside_on_some.ensures
