-- `records::inside::inside_on` meets its contract: no mark, or the record at the line's slot.
-- Rests on Slots.
use Rattle.records.proofs.Slots.{unmarked, under-lowest, from_lowest}
use Rattle.records.proofs.inside.inside_on.Goals as goal

pub returns-then-word_at-eq0 : goal.returns-then-word_at-eq0
returns-then-word_at-eq0 c = unmarked c.args.area.now c.args.words.now c.args.slots c.args.pos c.args.x c.word_at.ensures c.if-word_at-eq0.true

pub returns-then-word_at-pos : goal.returns-then-word_at-pos
returns-then-word_at-pos c = from_lowest c.args.area.now c.args.words.now c.args.slots c.args.pos c.args.x c.word_at.ensures c.if-word_at-eq0.false c.word_at-first.ensures
    c.word_at-2.ensures c.if-word_at-pos.true c.word_at-then-word_at-pos.ensures

pub returns-else-word_at-pos : goal.returns-else-word_at-pos
returns-else-word_at-pos c = under-lowest c.args.area.now c.args.words.now c.args.slots c.args.pos c.args.x c.word_at.ensures c.if-word_at-eq0.false c.word_at-first.ensures
    c.word_at-2.ensures c.if-word_at-pos.false
