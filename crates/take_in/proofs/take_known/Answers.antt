-- `take_in::take_known` meets its contract: the marks are cleared, and 10 comes as the entries are taken.
-- Rests on Taking and Passing.
use Rattle.take_in.proofs.Passing.{all_known, repeated_entry, all-nodes}
use Rattle.take_in.proofs.Taking.{nothing_taken, marks-cleared}
use Rattle.take_in.proofs.take_known.Goals as goal

pub take_each-requires : goal.take_each-requires
take_each-requires g c = record { known = all_known c.requires.absent_value; taking = nothing_taken _ _ _ c.requires.n_in_bounds c.fill.ensures }

pub returns-in-None : goal.returns-in-None
returns-in-None g c = all-nodes c.requires.list_nonzero c.requires.absent_value (marks-cleared _ _ _ c.fill.ensures) c.count.ensures c.in-None.ensures

pub returns-in-Some : goal.returns-in-Some
returns-in-Some g c = repeated_entry c.requires.list_nonzero c.requires.absent_value (marks-cleared _ _ _ c.fill.ensures) c.in-Some.ensures
