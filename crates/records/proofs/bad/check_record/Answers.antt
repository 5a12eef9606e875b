-- `records::bad::check_record` meets its contract: a good record's line is known, so its mark and its slot stand in the scratch.
-- Rests on Slotting.
use Rattle.std.proofs.Common.{arith, length-set, ◌+◌, ◌<◌}
use Rattle.paper.specs.Area.{K}
use Rattle.tables.proofs.Words.{count-few}
use Rattle.records.proofs.Slotting.{few-passed, bad_left, good-line, good_left}
use Rattle.records.proofs.bad.check_record.Goals as goal

pub returns-then-is_bad : goal.returns-then-is_bad
returns-then-is_bad c = bad_left c.requires.usable c.requires.passed c.is_bad.ensures c.if-is_bad.true

pub overflow_cast-area : goal.overflow_cast-area
overflow_cast-area c = omega (arith, few-passed c.requires.usable c.requires.passed, c.requires.usable.read.few-nodes, c.requires.usable.read.few-links)

pub bounds-area-slots : goal.bounds-area-slots
bounds-area-slots c =
    let known : c.from-line.result < K c.args.b.now c.args.area.now = good-line c.requires.usable c.requires.passed c.is_bad.ensures c.if-is_bad.false c.from-line.ensures in
    omega (arith, known, count-few c.requires.usable, c.requires.slots_fit, c.requires.usable.placed.after-scratch, c.requires.usable.room)

pub bounds-area-slots-2 : goal.bounds-area-slots-2
bounds-area-slots-2 c =
    let known : c.from-line.result < K c.args.b.now c.args.area.now = good-line c.requires.usable c.requires.passed c.is_bad.ensures c.if-is_bad.false c.from-line.ensures in
    omega (arith, known, count-few c.requires.usable, c.requires.slots_fit, c.requires.usable.placed.after-scratch, c.requires.usable.room, length-set c.args.area.now (c.args.slots.numbers + c.from-line.result) c.args.i)

pub returns : goal.returns
returns c = good_left c.requires.usable c.requires.passed c.is_bad.ensures c.if-is_bad.false c.from-line.ensures c.requires.slots_fit
