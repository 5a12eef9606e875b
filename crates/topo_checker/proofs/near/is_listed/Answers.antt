-- `topo_checker::near::is_listed` meets its contract: in the range, or below or above it.
-- Rests on Nearby.
use Rattle.std.proofs.Common.{inl, inr}
use Rattle.topo_checker.proofs.Nearby.{listed_below, listed_above, listed-within}
use Rattle.topo_checker.proofs.near.is_listed.Goals as goal

pub returns-then-j-last : goal.returns-then-j-last
returns-then-j-last c = listed-within _ _ _ _ _ c.if-j-last.true.0 c.if-j-last.true.1 c.word_at.ensures

pub returns-else-j-last : goal.returns-else-j-last
returns-else-j-last c = elim c.if-j-last.either [
  | inl h ↦ cc (listed_above c.args.area.now c.args.marks c.args.first c.args.last c.args.j h.0 h.1)
  | inr h ↦ cc (listed_below c.args.area.now c.args.marks c.args.first c.args.last c.args.j h)
]
