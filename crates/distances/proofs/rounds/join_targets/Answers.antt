-- `distances::rounds::join_targets` meets its contract: before link i the targets of the links before it have joined.
-- Rests on Passing and Rounding.
use Rattle.std.proofs.Common.{arith}
use Rattle.neighbours.proofs.Passing.{targets_rise, link-known, target_below, all-targets}
use Rattle.distances.proofs.Rounding.{links-start, links-next}
use Rattle.distances.proofs.Passing.{standing-kept}
use Rattle.distances.proofs.Joining.{joins_as}
use Rattle.distances.proofs.rounds.join_targets.Goals as goal

pub loop-i-init : goal.loop-i-init
loop-i-init c = links-start c.args.b.now c.args.v c.targets_start-start.ensures c.requires.met

pub target_at-w-requires : goal.target_at-w-requires
target_at-w-requires c = record { outgoing = (standing-kept c.requires.standing c.loop-i.invariant.kept).linked; i_lt_links = link-known c.requires.standing.linked c.requires.v_lt_nodes.0 c.targets_start-end.ensures c.loop-i-test.true }

pub join-grown-requires : goal.join-grown-requires
join-grown-requires c = record { met = c.loop-i.invariant.met; v_lt_nodes = (target_below c.requires.standing.linked c.requires.v_lt_nodes.0 c.targets_start-end.ensures c.loop-i-test.true c.target_at-w.ensures, c.requires.v_lt_nodes.1) }

pub loop-i-preserved : goal.loop-i-preserved
loop-i-preserved c = links-next c.args.b.now c.args.v c.loop-i.i (omega (arith, c.targets_start-start.ensures, c.loop-i.auto.i)) c.loop-i.invariant c.target_at-w.ensures c.join-grown.ensures

pub returns : goal.returns
returns c = joins_as
    (all-targets c.requires.standing.linked c.requires.v_lt_nodes.0 c.targets_start-end.ensures
    (omega (arith, c.targets_start-start.ensures, c.targets_start-end.ensures, c.loop-i.auto.i-end, targets_rise c.requires.standing.linked c.requires.v_lt_nodes.0))
    c.loop-i-test.false)
    c.loop-i.invariant
