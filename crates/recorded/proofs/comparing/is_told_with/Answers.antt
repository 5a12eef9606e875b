-- `recorded::comparing::is_told_with` meets its contract: the numbers told are compared first, then the list behind them.
-- Rests on Same.
use Rattle.std.proofs.Common.{arith}
use Rattle.recorded.proofs.Same.{with_none, with_other, with_list_lem}
use Rattle.recorded.proofs.comparing.is_told_with.Goals as goal

pub returns-then-words-at : goal.returns-then-words-at
returns-then-words-at c = with_none c.args.words.now c.args.at c.args.told.now c.args.list.now c.if-words-at.true

pub returns-else-begins : goal.returns-else-begins
returns-else-begins c = with_other c.args.words.now c.args.at c.args.told.now c.args.list.now (omega arith) c.begins.ensures c.if-begins.false

pub returns-then-begins : goal.returns-then-begins
returns-then-begins c = with_list_lem c.args.words.now c.args.at c.args.told.now c.args.list.now (omega arith) c.begins.ensures c.if-begins.true
    c.is_list.ensures
