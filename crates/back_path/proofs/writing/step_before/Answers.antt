-- `back_path::writing::step_before` meets its contract: after some sources the least of those at the distance stands.
-- Rests on Searching.
use Rattle.std.proofs.Common.{arith, ◌∙◌}
use Rattle.back_path.proofs.Searching.{search_starts, sources_rise, place-known, read_known, search_takes, search_passes, search_ends}
use Rattle.back_path.proofs.writing.step_before.Goals as goal
use Rattle.back_path.proofs.writing.step_before.Goals.{then-at_distance, else-at_distance}

pub loop-i-init : goal.loop-i-init
loop-i-init c = search_starts c.requires.sourced c.requires.v_lt_nodes c.sources_start-end.ensures c.sources_start-start.ensures

pub source_at-u-requires-clause-i_bound : goal.source_at-u-requires-clause-i_bound
source_at-u-requires-clause-i_bound c = place-known c.requires.sourced c.requires.v_lt_nodes c.sources_start-end.ensures (omega (arith, c.sources_start-start.ensures, c.loop-i.auto.i)) c.loop-i.invariant c.loop-i-test.true

pub at_distance-requires-clause-v_lt_nodes : goal.at_distance-requires-clause-v_lt_nodes
at_distance-requires-clause-v_lt_nodes c = read_known c.requires.sourced c.requires.v_lt_nodes c.sources_start-end.ensures (omega (arith, c.sources_start-start.ensures, c.loop-i.auto.i)) c.loop-i.invariant c.loop-i-test.true c.source_at-u.ensures

pub loop-i-preserved : goal.loop-i-preserved
loop-i-preserved c =
    elim c.if-at_distance.branch [
      | then-at_distance w ↦ search_takes c.requires.sourced c.requires.v_lt_nodes c.sources_start-end.ensures (omega (arith, c.sources_start-start.ensures, c.loop-i.auto.i)) c.loop-i.invariant c.loop-i-test.true c.source_at-u.ensures c.at_distance.ensures w.if-at_distance.true (w.least-is ∙ w.min-least.ensures)
      | else-at_distance w ↦ search_passes c.requires.sourced c.requires.v_lt_nodes c.sources_start-end.ensures (omega (arith, c.sources_start-start.ensures, c.loop-i.auto.i)) c.loop-i.invariant c.loop-i-test.true c.source_at-u.ensures c.at_distance.ensures w.if-at_distance.false w.least-is
    ]

pub returns : goal.returns
returns c = search_ends c.requires.sourced c.requires.v_lt_nodes c.sources_start-end.ensures c.loop-i.invariant
    (omega (arith, c.sources_start-start.ensures, c.loop-i.auto.i-end, sources_rise c.requires.sourced c.requires.v_lt_nodes c.sources_start-end.ensures)) c.loop-i-test.false c.requires.v_value
