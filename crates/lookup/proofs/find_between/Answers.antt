-- `lookup::find_between` meets its contract: the position stays strictly between those of the ends, which come closer each turn.
-- Rests on Searching.
use Rattle.std.proofs.Common.{arith, ◌<◌}
use Rattle.std.proofs.Common.{◌<◌, length, arith}
use Rattle.lookup.specs.Ends.{Ends}
use Rattle.lookup.proofs.Searching.{looks_between, ends, found, none_between}
use Rattle.lookup.proofs.find_between.Goals as goal

pub overflow_sub-high : goal.overflow_sub-high
overflow_sub-high c = omega (arith, c.requires.bracketed.inside)

pub loop-low-init : goal.loop-low-init
loop-low-init c = c.requires.bracketed

pub position_at-left-requires : goal.position_at-left-requires
position_at-left-requires c = record { line = c.requires.line; i_in_bounds = omega (arith, c.loop-low.invariant.apart, c.loop-low.invariant.inside) }

pub position_at-right-requires : goal.position_at-right-requires
position_at-right-requires c = record { line = c.requires.line; i_in_bounds = c.loop-low.invariant.inside }

pub guess-middle-requires : goal.guess-middle-requires
guess-middle-requires c =
    let asked : Ends c.loop-low.low c.loop-low.high c.position_at-left.result c.position_at-right.result c.args.pos = ends c.requires.line c.args.pos c.loop-low.invariant (omega (arith, c.loop-low-test.true)) c.position_at-left.ensures.value c.position_at-right.ensures.value c.position_at-right.ensures.upper_bound in
    asked

pub position_at-there-requires : goal.position_at-there-requires
position_at-there-requires c =
    let asked : Ends c.loop-low.low c.loop-low.high c.position_at-left.result c.position_at-right.result c.args.pos = ends c.requires.line c.args.pos c.loop-low.invariant (omega (arith, c.loop-low-test.true)) c.position_at-left.ensures.value c.position_at-right.ensures.value c.position_at-right.ensures.upper_bound in
    let between : (c.loop-low.low < c.guess-middle.result) × (c.guess-middle.result < c.loop-low.high) = looks_between asked c.guess-middle.ensures in
    let inside : c.guess-middle.result < length c.args.nodes.now = omega (arith, between.1, c.loop-low.invariant.inside) in
    record { line = c.requires.line; i_in_bounds = inside }

pub returns-then-there-pos : goal.returns-then-there-pos
returns-then-there-pos c =
    let asked : Ends c.loop-low.low c.loop-low.high c.position_at-left.result c.position_at-right.result c.args.pos = ends c.requires.line c.args.pos c.loop-low.invariant (omega (arith, c.loop-low-test.true)) c.position_at-left.ensures.value c.position_at-right.ensures.value c.position_at-right.ensures.upper_bound in
    let between : (c.loop-low.low < c.guess-middle.result) × (c.guess-middle.result < c.loop-low.high) = looks_between asked c.guess-middle.ensures in
    let inside : c.guess-middle.result < length c.args.nodes.now = omega (arith, between.1, c.loop-low.invariant.inside) in
    found c.requires.line c.args.pos c.guess-middle.result inside c.position_at-there.ensures.value c.if-there-pos.true

pub loop-low-smaller-then-there-pos-2 : goal.loop-low-smaller-then-there-pos-2
loop-low-smaller-then-there-pos-2 c =
    let asked : Ends c.loop-low.low c.loop-low.high c.position_at-left.result c.position_at-right.result c.args.pos = ends c.requires.line c.args.pos c.loop-low.invariant (omega (arith, c.loop-low-test.true)) c.position_at-left.ensures.value c.position_at-right.ensures.value c.position_at-right.ensures.upper_bound in
    let between : (c.loop-low.low < c.guess-middle.result) × (c.guess-middle.result < c.loop-low.high) = looks_between asked c.guess-middle.ensures in
    omega (arith, between)

pub loop-low-preserved-then-there-pos-2 : goal.loop-low-preserved-then-there-pos-2
loop-low-preserved-then-there-pos-2 c =
    let asked : Ends c.loop-low.low c.loop-low.high c.position_at-left.result c.position_at-right.result c.args.pos = ends c.requires.line c.args.pos c.loop-low.invariant (omega (arith, c.loop-low-test.true)) c.position_at-left.ensures.value c.position_at-right.ensures.value c.position_at-right.ensures.upper_bound in
    let between : (c.loop-low.low < c.guess-middle.result) × (c.guess-middle.result < c.loop-low.high) = looks_between asked c.guess-middle.ensures in
    let inside : c.guess-middle.result < length c.args.nodes.now = omega (arith, between.1, c.loop-low.invariant.inside) in
    record {
      apart = between.1;
      inside = c.loop-low.invariant.inside;
      above = omega (arith, c.position_at-there.ensures.value, c.if-there-pos-2.true);
      under = c.loop-low.invariant.under;
    }

pub loop-low-smaller : goal.loop-low-smaller
loop-low-smaller c =
    let asked : Ends c.loop-low.low c.loop-low.high c.position_at-left.result c.position_at-right.result c.args.pos = ends c.requires.line c.args.pos c.loop-low.invariant (omega (arith, c.loop-low-test.true)) c.position_at-left.ensures.value c.position_at-right.ensures.value c.position_at-right.ensures.upper_bound in
    let between : (c.loop-low.low < c.guess-middle.result) × (c.guess-middle.result < c.loop-low.high) = looks_between asked c.guess-middle.ensures in
    omega (arith, between)

pub loop-low-preserved : goal.loop-low-preserved
loop-low-preserved c =
    let asked : Ends c.loop-low.low c.loop-low.high c.position_at-left.result c.position_at-right.result c.args.pos = ends c.requires.line c.args.pos c.loop-low.invariant (omega (arith, c.loop-low-test.true)) c.position_at-left.ensures.value c.position_at-right.ensures.value c.position_at-right.ensures.upper_bound in
    let between : (c.loop-low.low < c.guess-middle.result) × (c.guess-middle.result < c.loop-low.high) = looks_between asked c.guess-middle.ensures in
    let inside : c.guess-middle.result < length c.args.nodes.now = omega (arith, between.1, c.loop-low.invariant.inside) in
    record {
      apart = between.0;
      inside = inside;
      above = c.loop-low.invariant.above;
      under = omega (arith, c.position_at-there.ensures.value, c.if-there-pos.false, c.if-there-pos-2.false);
    }

pub returns : goal.returns
returns c = none_between c.requires.line c.args.pos c.loop-low.invariant (omega (arith, c.loop-low-test.false))
