-- `distances::closing::smallest_target` meets its contract: before link i the smallest of the listed targets before it is found.
-- Rests on Passing and Seeking.
use Rattle.std.proofs.Common.{arith}
use Rattle.neighbours.proofs.Passing.{targets_rise, link-known, target_below}
use Rattle.lists.specs.Found.{found_of}
use Rattle.distances.proofs.Seeking.{links-none, links_more, links-all}
use Rattle.distances.proofs.Passing.{room}
use Rattle.distances.proofs.closing.smallest_target.Goals as goal

pub loop-i-init : goal.loop-i-init
loop-i-init c = links-none c.args.b.now c.args.v _ _ (found_of c.args.found) c.targets_start-start.ensures

pub target_at-w-requires-clause-i_lt_links : goal.target_at-w-requires-clause-i_lt_links
target_at-w-requires-clause-i_lt_links c = link-known c.requires.standing.linked c.requires.v_lt_nodes c.targets_start-end.ensures c.loop-i-test.true

pub smaller_listed-best-requires : goal.smaller_listed-best-requires
smaller_listed-best-requires c = record { queue_in_bounds = room c.requires.standing; v_lt_nodes = target_below c.requires.standing.linked c.requires.v_lt_nodes c.targets_start-end.ensures c.loop-i-test.true c.target_at-w.ensures }

pub loop-i-preserved : goal.loop-i-preserved
loop-i-preserved c = links_more c.args.b.now c.args.v _ _ (found_of c.args.found) c.loop-i.i (omega (arith, c.targets_start-start.ensures, c.loop-i.auto.i)) c.target_at-w.ensures c.loop-i.invariant c.smaller_listed-best.ensures

pub returns : goal.returns
returns c = links-all c.requires.standing.linked c.requires.v_lt_nodes _ (found_of c.args.found) c.targets_start-end.ensures
    (omega (arith, c.targets_start-start.ensures, c.targets_start-end.ensures, c.loop-i.auto.i-end, targets_rise c.requires.standing.linked c.requires.v_lt_nodes))
    c.loop-i-test.false c.loop-i.invariant
