-- `topo_checker::listing::marked_extent` meets its contract: the first and the last of the places passed.
-- Rests on Taking.
use Rattle.std.proofs.Common.{refl}
use Rattle.topo_checker.proofs.Taking.{extent_next, extent_all}
use Rattle.topo_checker.specs.Listing.{extent_below}
use Rattle.topo_checker.proofs.listing.marked_extent.Goals as goal

pub loop-i-init : goal.loop-i-init
unfolding extent_below
loop-i-init c = refl

pub loop-i-preserved : goal.loop-i-preserved
loop-i-preserved c = extent_next _ _ _ c.loop-i.invariant c.widened-ends.ensures

pub returns : goal.returns
returns c = extent_all _ _ c.loop-i.invariant c.loop-i.auto.i-end c.loop-i-test.false
