-- `intervals::collect::small_map_add` meets its contract: a line with count 0 gets the next record, any other its own widened.
-- Rests on Adding.
use Rattle.std.proofs.Common.{arith}
use Rattle.intervals.proofs.Adding.{fresh-room, fresh-became, there-room, there-became}
use Rattle.intervals.proofs.collect.small_map_add.Goals as goal

pub overflow_cast-area : goal.overflow_cast-area
overflow_cast-area c = omega (arith, fresh-room c.requires c.if-seen-eq0.true)

pub put_record-requires : goal.put_record-requires
put_record-requires c = omega (arith, fresh-room c.requires c.if-seen-eq0.true)

pub returns-then-seen-eq0 : goal.returns-then-seen-eq0
returns-then-seen-eq0 c = fresh-became c.requires c.args.pos c.if-seen-eq0.true c.put_record.ensures

pub widen-requires : goal.widen-requires
widen-requires c = omega (arith, there-room c.requires c.if-seen-eq0.false c.word_at-i.ensures)

pub returns : goal.returns
returns c = there-became c.requires c.args.pos c.if-seen-eq0.false c.word_at-i.ensures
    c.widen.ensures
