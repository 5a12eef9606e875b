-- `line_tables::spread::node_starts` meets its contract: after v nodes the first v starts stand, and the sum of their widths.
-- Rests on Widening.
use Rattle.std.proofs.Common.{arith, refl, ◌≡◌}
use Rattle.line_tables.proofs.Widening.{table_more, spaced_now, total-next, total-small, starts-next, no_width}
use Rattle.line_tables.specs.Widths.{widths_before}
use Rattle.line_tables.proofs.spread.node_starts.Goals as goal

pub loop-v-init : goal.loop-v-init
loop-v-init c = (no_width c.args.area.now c.args.links c.args.outs, refl)

pub width-total-requires : goal.width-total-requires
width-total-requires c = spaced_now c.requires c.loop-v-test.true c.loop-v.invariant.1 c.loop-v.invariant.0 refl

pub overflow_add-total : goal.overflow_add-total
overflow_add-total c = omega (arith, total-small c.requires c.loop-v-test.true c.loop-v.invariant.1 c.loop-v.invariant.0 refl c.width-total.ensures)

pub loop-v-preserved : goal.loop-v-preserved
loop-v-preserved c = (
  total-next c.requires c.loop-v-test.true c.loop-v.invariant.1 c.loop-v.invariant.0 refl c.width-total.ensures,
  starts-next c.requires c.loop-v-test.true c.loop-v.invariant.1 c.loop-v.invariant.0 refl,
)

pub returns : goal.returns
returns c = let all : c.args.n ≡ c.loop-v.v = omega arith in
    rw all (table_more c.args.area.now c.args.into (widths_before c.args.area.now c.args.links c.args.outs) c.loop-v.v c.loop-v.invariant.1 c.loop-v.invariant.0)
