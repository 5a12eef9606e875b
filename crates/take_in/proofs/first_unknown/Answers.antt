-- `take_in::first_unknown` meets its contract: the entries passed are known, and the first that is not decides.
-- Rests on Search.
use Rattle.std.proofs.Common.{arith, get_or, le-leb, length}
use borrow.Author.Tests.{lt-leb}
use Rattle.paper.specs.Refusals.{earliest}
use Rattle.take_in.proofs.Search.{clean_starts, clean_on, bad_at, clean_all}
use Rattle.take_in.proofs.first_unknown.Goals as goal

pub loop-i-init : goal.loop-i-init
loop-i-init g c = clean_starts _

pub returns-then-from-n : goal.returns-then-from-n
unfolding earliest
returns-then-from-n g c = bad_at c.loop-i.invariant (length (g.E.Entries.entries c.args.list)) (omega arith)
    (le-leb c.args.n (get_or (g.E.Entries.entries c.args.list) c.loop-i.i 0) (omega arith))

pub loop-i-preserved : goal.loop-i-preserved
loop-i-preserved g c = clean_on c.loop-i.invariant
    (lt-leb c.args.n (get_or (g.E.Entries.entries c.args.list) c.loop-i.i 0) (omega arith))

pub returns : goal.returns
unfolding earliest
returns g c = clean_all c.loop-i.invariant (length (g.E.Entries.entries c.args.list)) (omega arith)
