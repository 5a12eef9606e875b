-- `walk::links::join_neighbours` meets its contract: before link i the targets of the links before it have joined.
-- Rests on Neighbours and neighbours' Passing.
use Rattle.std.proofs.Common.{arith}
use Rattle.neighbours.proofs.Passing.{targets_rise, link-known, target_below, all-targets}
use Rattle.walk.proofs.Neighbours.{grown_as, leading-kept, links-start, links-next}
use Rattle.walk.proofs.links.join_neighbours.Goals as goal

pub loop-i-init : goal.loop-i-init
loop-i-init c = links-start c.args.b.now c.args.v c.targets_start-start.ensures c.requires.queued

pub target_at-w-requires : goal.target_at-w-requires
target_at-w-requires c = record {
  outgoing = (leading-kept c.requires.leading c.loop-i.invariant.kept).linked;
  i_lt_links = link-known c.requires.leading.linked c.requires.v_lt_nodes c.targets_start-end.ensures c.loop-i-test.true;
}

pub join-grown-requires-clause-v_lt_n : goal.join-grown-requires-clause-v_lt_n
join-grown-requires-clause-v_lt_n c = target_below c.requires.leading.linked c.requires.v_lt_nodes c.targets_start-end.ensures c.loop-i-test.true
    c.target_at-w.ensures

pub loop-i-preserved : goal.loop-i-preserved
loop-i-preserved c = links-next c.args.b.now c.args.v c.loop-i.i (omega (arith, c.targets_start-start.ensures, c.loop-i.auto.i)) c.loop-i.invariant c.target_at-w.ensures
    c.join-grown.ensures

pub returns : goal.returns
returns c = grown_as
    (all-targets c.requires.leading.linked c.requires.v_lt_nodes c.targets_start-end.ensures
    (omega (arith, c.targets_start-start.ensures, c.targets_start-end.ensures, c.loop-i.auto.i-end, targets_rise c.requires.leading.linked c.requires.v_lt_nodes))
    c.loop-i-test.false)
    c.loop-i.invariant
