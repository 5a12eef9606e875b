-- `distances::rounds::round` meets its contract: before place t what the nodes before it are linked to has joined.
-- Rests on Rounding.
use Rattle.lists.proofs.Upto.{at_the_end}
use Rattle.distances.specs.Reached.{targets_in}
use Rattle.distances.proofs.Rounding.{nodes-start, node-inside, still_standing, node-known, nodes_more}
use Rattle.distances.proofs.Joining.{joins_as}
use Rattle.distances.proofs.rounds.round.Goals as goal

pub loop-t-init : goal.loop-t-init
loop-t-init c = nodes-start c.requires.standing c.requires.met c.args.from

pub word_at-v-requires : goal.word_at-v-requires
word_at-v-requires c = node-inside c.requires.standing c.requires.met c.args.from c.loop-t.auto.t c.loop-t-test.true c.loop-t.invariant

pub join_targets-grown-requires : goal.join_targets-grown-requires
join_targets-grown-requires c = record {
  standing = still_standing c.requires.standing c.requires.met c.args.from c.loop-t.auto.t c.loop-t-test.true c.loop-t.invariant;
  met = c.loop-t.invariant.met;
  v_lt_nodes = (
    node-known c.requires.standing c.requires.met c.args.from c.loop-t.auto.t c.loop-t-test.true c.loop-t.invariant c.word_at-v.ensures,
    c.requires.from_le_to.1,
  );
}

pub loop-t-preserved : goal.loop-t-preserved
loop-t-preserved c = nodes_more c.requires.standing c.requires.met c.args.from c.loop-t.auto.t c.loop-t-test.true c.loop-t.invariant c.word_at-v.ensures c.join_targets-grown.ensures

pub returns : goal.returns
returns c = joins_as (at_the_end (targets_in c.args.b.now c.args.area.now c.args.at.start c.args.from) (c.loop-t.auto.t-end c.requires.from_le_to.0) c.loop-t-test.false) c.loop-t.invariant
