-- `distances::closing::smallest_end` meets its contract: before place t the smallest listed step that a node before it is linked to is found.
-- Rests on Seeking.
use Rattle.distances.proofs.Seeking.{nodes-none, nodes_more, nodes-all}
use Rattle.distances.proofs.Passing.{place_inside, place-known}
use Rattle.distances.specs.Reached.{queue_of}
use Rattle.distances.proofs.closing.smallest_end.Goals as goal

pub loop-t-init : goal.loop-t-init
loop-t-init c = nodes-none c.args.b.now c.args.area.now (queue_of c.args.at) c.args.from

pub word_at-v-requires : goal.word_at-v-requires
word_at-v-requires c = place_inside c.requires.met c.loop-t-test.true

pub smallest_target-best-requires : goal.smallest_target-best-requires
smallest_target-best-requires c = record { standing = c.requires.standing; v_lt_nodes = place-known c.requires.met c.loop-t-test.true c.word_at-v.ensures }

pub loop-t-preserved : goal.loop-t-preserved
loop-t-preserved c = nodes_more c.args.b.now c.args.from c.requires.met c.loop-t.auto.t c.loop-t-test.true c.word_at-v.ensures c.loop-t.invariant c.smallest_target-best.ensures

pub returns : goal.returns
returns c = nodes-all c.args.b.now c.args.area.now (queue_of c.args.at) c.args.from (c.loop-t.auto.t-end c.requires.from_le_to) c.loop-t-test.false c.loop-t.invariant
