-- `topo_checker::passing::pass_place` meets its contract: each return is a case of passing a place.
-- Rests on Neighbours and Following.
use Rattle.std.proofs.Common.{arith}
use Rattle.topo_checker.proofs.Following.{passed-listed, passed_other, passed_feeding, passed-marked}
use Rattle.topo_checker.proofs.Neighbours.{known, rises, links-inside}
use Rattle.topo_checker.proofs.passing.pass_place.Goals as goal

pub word_at-v-requires : goal.word_at-v-requires
word_at-v-requires c = omega (arith, c.requires.laid.placed, c.requires.i_lt_nodes)

pub targets_start-start-requires : goal.targets_start-start-requires
targets_start-start-requires c = record { outgoing = c.requires.laid.linked; v_le_nodes = omega (arith, known c.requires.laid c.requires.i_lt_nodes c.word_at-v.ensures) }

pub overflow_add-v : goal.overflow_add-v
overflow_add-v c = omega (arith, known c.requires.laid c.requires.i_lt_nodes c.word_at-v.ensures, c.requires.laid.placed.small)

pub targets_start-requires : goal.targets_start-requires
targets_start-requires c = record { outgoing = c.requires.laid.linked; v_le_nodes = omega (arith, known c.requires.laid c.requires.i_lt_nodes c.word_at-v.ensures) }

pub overflow_sub-count : goal.overflow_sub-count
overflow_sub-count c = rises c.requires.laid c.requires.i_lt_nodes c.word_at-v.ensures c.targets_start-start.ensures c.targets_start.ensures

pub word_at-requires : goal.word_at-requires
word_at-requires c = omega (arith, c.requires.laid.placed, c.requires.i_lt_nodes)

pub mark_others-requires : goal.mark_others-requires
mark_others-requires c = record { laid = c.requires.laid; count_bound = links-inside c.requires.laid c.requires.i_lt_nodes c.word_at-v.ensures c.targets_start-start.ensures c.targets_start.ensures }

pub returns-then-word_at-ne0 : goal.returns-then-word_at-ne0
returns-then-word_at-ne0 c = passed-listed c.requires.laid c.requires.i_lt_nodes c.word_at-v.ensures c.targets_start-start.ensures c.targets_start.ensures c.args.first c.args.last
    c.word_at.ensures c.if-word_at-ne0.true c.mark_others.ensures

pub word_at-requires-2 : goal.word_at-requires-2
word_at-requires-2 c = omega (arith, c.requires.laid.placed, c.requires.i_lt_nodes)

pub returns-then-word_at-eq0 : goal.returns-then-word_at-eq0
returns-then-word_at-eq0 c = passed_other c.requires.laid c.requires.i_lt_nodes c.word_at-v.ensures c.targets_start-start.ensures c.targets_start.ensures c.args.first c.args.last
    c.word_at.ensures c.if-word_at-ne0.false c.word_at-2.ensures c.if-word_at-eq0.true

pub meets_listed-requires : goal.meets_listed-requires
meets_listed-requires c = record { laid = c.requires.laid; count_bound = links-inside c.requires.laid c.requires.i_lt_nodes c.word_at-v.ensures c.targets_start-start.ensures c.targets_start.ensures }

pub returns-then-meets_listed : goal.returns-then-meets_listed
returns-then-meets_listed c = passed_feeding c.requires.laid c.requires.i_lt_nodes c.word_at-v.ensures c.targets_start-start.ensures c.targets_start.ensures c.args.first c.args.last
    c.word_at.ensures c.if-word_at-ne0.false c.word_at-2.ensures c.if-word_at-eq0.false c.meets_listed.ensures c.if-meets_listed.true

pub mark_others-requires-2 : goal.mark_others-requires-2
mark_others-requires-2 c = record { laid = c.requires.laid; count_bound = links-inside c.requires.laid c.requires.i_lt_nodes c.word_at-v.ensures c.targets_start-start.ensures c.targets_start.ensures }

pub returns : goal.returns
returns c = passed-marked c.requires.laid c.requires.i_lt_nodes c.word_at-v.ensures c.targets_start-start.ensures c.targets_start.ensures c.args.first c.args.last
    c.word_at.ensures c.if-word_at-ne0.false c.word_at-2.ensures c.if-word_at-eq0.false c.meets_listed.ensures c.if-meets_listed.false c.mark_others-2.ensures
