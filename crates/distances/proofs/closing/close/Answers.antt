-- `distances::closing::close` meets its contract: after d rounds no distance up to d has closed.
-- Rests on Open.
use Rattle.std.proofs.Common.{arith, ◌∙◌}
use Rattle.tables.proofs.Within.{within_both}
use Rattle.distances.proofs.Joining.{joins_rise}
use Rattle.distances.proofs.Open.{open_first, not_far, never, goes_on, closes_here}
use Rattle.distances.proofs.Passing.{standing-kept, is-sound}
use Rattle.distances.proofs.closing.close.Goals as goal

pub loop-from-init : goal.loop-from-init
loop-from-init c = open_first c.requires.reached

pub overflow_add-d : goal.overflow_add-d
overflow_add-d c = omega (arith, not_far c.loop-from.invariant c.loop-from-test.true, c.loop-from.invariant.reached.met.small)

pub round-grown-requires : goal.round-grown-requires
round-grown-requires c = record { standing = standing-kept c.requires.standing c.loop-from.invariant.kept; met = c.loop-from.invariant.reached.met; from_le_to = (c.loop-from.invariant.reached.rises, not_far c.loop-from.invariant c.loop-from-test.true) }

pub overflow_add-d-in-loop-from : goal.overflow_add-d-in-loop-from
overflow_add-d-in-loop-from c = omega (arith, not_far c.loop-from.invariant c.loop-from-test.true, c.loop-from.invariant.reached.met.small)

pub smallest_end-requires : goal.smallest_end-requires
smallest_end-requires c = record { standing = standing-kept c.requires.standing (within_both c.loop-from.invariant.kept c.round-grown.ensures.kept); met = c.round-grown.ensures.met; from_le_to = joins_rise c.loop-from.invariant.reached.met c.round-grown.ensures }

pub shape_of-area-in-Some : goal.shape_of-area-in-Some
shape_of-area-in-Some c = c.round-grown.ensures.kept.long ∙ c.loop-from.invariant.kept.long

pub returns-in-Some : goal.returns-in-Some
returns-in-Some c = closes_here (is-sound c.requires.standing) c.requires.standing.linked.read.nodes c.loop-from.invariant c.loop-from-test.true c.round-grown.ensures c.in-Some.ensures

pub loop-from-smaller : goal.loop-from-smaller
loop-from-smaller c = omega (arith, c.loop-from-test.true, c.loop-from.invariant.reached.met.few)

pub loop-from-preserved : goal.loop-from-preserved
loop-from-preserved c = goes_on (is-sound c.requires.standing) c.requires.standing.linked.read.nodes c.loop-from.invariant c.loop-from-test.true c.round-grown.ensures c.in_default.ensures

pub shape_of-area : goal.shape_of-area
shape_of-area c = c.loop-from.invariant.kept.long

pub returns : goal.returns
returns c = never c.loop-from.invariant c.loop-from-test.false
