-- `topo_checker::passing::marked_convex` meets its contract: no place is a yes, and else the range is passed.
-- Rests on Marked.
use Rattle.std.proofs.Common.{arith}
use Rattle.topo_checker.proofs.Marked.{none_marked, unpassed, range_marked}
use Rattle.topo_checker.proofs.passing.marked_convex.Goals as goal

pub marked_extent-requires : goal.marked_extent-requires
marked_extent-requires c = omega (arith, c.requires.laid.placed)

pub returns-in_default : goal.returns-in_default
returns-in_default c = none_marked c.args.b.now c.args.at c.args.room c.in_default.ensures

pub fed_back-requires : goal.fed_back-requires
fed_back-requires c = record { laid = c.requires.laid; unpassed = unpassed c.args.b.now c.args.at c.args.room c.in-Some.ensures c.requires.fresh }

pub returns : goal.returns
returns c = range_marked c.args.b.now c.args.at c.args.room c.in-Some.ensures c.fed_back.ensures
