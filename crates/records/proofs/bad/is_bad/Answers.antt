-- `records::bad::is_bad` meets its contract: each return is one of 12's reasons, in the table's order; the mark tells a line used before.
-- Rests on Reasons and Slotting.
use Rattle.std.proofs.Common.{ap, arith, not, rules, ◌<◌}
use Rattle.paper.specs.Area.{K}
use Rattle.tables.proofs.Words.{count-is, count-few}
use Rattle.records.proofs.Slotting.{mark_set, mark-clear}
use Rattle.records.proofs.Reasons.{unknown_line, used-line, low_off, high_off, order_decides}
use Rattle.records.proofs.bad.is_bad.Goals as goal

pub returns-then-line-from : goal.returns-then-line-from
returns-then-line-from c = unknown_line c.args.b.now c.args.area.now c.args.words.now c.args.i c.from-line.ensures c.word_at-lowest.ensures c.word_at-highest.ensures (omega (arith, c.if-line-from.true, c.from.ensures, count-is c.requires.usable))

pub word_at-requires : goal.word_at-requires
word_at-requires c =
    let known : c.from-line.result < K c.args.b.now c.args.area.now = omega (arith, c.if-line-from.false, c.from.ensures, count-is c.requires.usable) in
    omega (arith, known, count-few c.requires.usable, c.requires.slots_fit, c.requires.usable.placed.after-scratch, c.requires.usable.room)

pub returns-then-word_at-ne0 : goal.returns-then-word_at-ne0
returns-then-word_at-ne0 c =
    let known : c.from-line.result < K c.args.b.now c.args.area.now = omega (arith, c.if-line-from.false, c.from.ensures, count-is c.requires.usable) in
    used-line c.args.b.now c.args.area.now c.args.words.now c.args.i c.from-line.ensures c.word_at-lowest.ensures c.word_at-highest.ensures (mark_set c.requires.usable c.requires.passed known c.word_at.ensures c.if-word_at-ne0.true)

pub stands_on-requires-clause-x_bound : goal.stands_on-requires-clause-x_bound
stands_on-requires-clause-x_bound c = omega (arith, c.if-line-from.false, c.from.ensures, count-is c.requires.usable)

pub returns-then-not-stands_on : goal.returns-then-not-stands_on
returns-then-not-stands_on c = low_off c.args.b.now c.args.area.now c.args.words.now c.args.i c.from-line.ensures c.word_at-lowest.ensures c.word_at-highest.ensures c.stands_on.ensures (ap not c.if-not-stands_on.true)

pub stands_on-requires-2-clause-x_bound : goal.stands_on-requires-2-clause-x_bound
stands_on-requires-2-clause-x_bound c = omega (arith, c.if-line-from.false, c.from.ensures, count-is c.requires.usable)

pub returns-then-not-stands_on-2 : goal.returns-then-not-stands_on-2
returns-then-not-stands_on-2 c = high_off c.args.b.now c.args.area.now c.args.words.now c.args.i c.from-line.ensures c.word_at-lowest.ensures c.word_at-highest.ensures c.stands_on-2.ensures (ap not c.if-not-stands_on-2.true)

pub returns : goal.returns
returns c =
    let known : c.from-line.result < K c.args.b.now c.args.area.now = omega (arith, c.if-line-from.false, c.from.ensures, count-is c.requires.usable) in
    order_decides c.args.b.now c.args.area.now c.args.words.now c.args.i c.from-line.ensures c.word_at-lowest.ensures c.word_at-highest.ensures known (mark-clear c.requires.usable c.requires.passed known c.word_at.ensures (search rules))
    c.stands_on.ensures (ap not c.if-not-stands_on.false) c.stands_on-2.ensures (ap not c.if-not-stands_on-2.false)
