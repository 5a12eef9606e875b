-- `acceptance::entries::entries_below` meets its contract: the entries, lent as a list of their own, are tested one by one.
-- Rests on Starts.
use Rattle.std.proofs.Common.{arith, ltb, rules, tests, ◌+◌, ◌-◌}
use Rattle.std.proofs.lemmas.Iterator.{YieldsList-from_slice}
use Rattle.std.proofs.lemmas.Iterator.Search.{all_from_yields_List}
use Rattle.lists.proofs.Sections.{part}
use Rattle.acceptance.proofs.Starts.{entries-lent}
use Rattle.acceptance.proofs.entries.entries_below.Goals as goal

pub returns : goal.returns
returns c =
    entries-lent c.args.area.now c.args.at c.args.count c.args.bound {k = c.args.at + c.args.count - c.args.at} (omega arith) c.requires
    (all_from_yields_List (λ x. ltb x c.args.bound) _ _ c.all.result c.all.ensures.ran
    (YieldsList-from_slice (part c.args.area.now c.args.at (c.args.at + c.args.count - c.args.at)) cc) (λ x b q k. search (rules, tests)))
