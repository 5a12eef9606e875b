use Rattle.std.proofs.Common.{◌≡◌}
use Rattle.topo_checker.specs.Listing.{extent_below}
use Rattle.topo_checker.proofs.listing.marked_extent.Given as goal

abbrev pub invariant-loop-i : goal.invariant-loop-i
invariant-loop-i l = l.ends ≡ extent_below l.area l.marks l.i
