-- `topo_checker::passing::fed_back` meets its contract: the marks follow the state after the places passed.
-- Rests on Following.
use Rattle.std.proofs.Common.{arith}
use Rattle.topo_checker.proofs.Following.{going_first, laid_now, going_next, feeds_back, all-passed}
use Rattle.topo_checker.proofs.passing.fed_back.Goals as goal

pub loop-i-init : goal.loop-i-init
loop-i-init c = going_first c.requires.laid c.requires.unpassed

pub pass_place-requires-clause-laid : goal.pass_place-requires-clause-laid
pass_place-requires-clause-laid c = laid_now c.requires.laid c.requires.unpassed c.loop-i-test.true c.loop-i.invariant

pub returns-then-pass_place : goal.returns-then-pass_place
returns-then-pass_place c = feeds_back c.requires.laid c.requires.unpassed c.loop-i-test.true c.loop-i.invariant c.pass_place.ensures c.if-pass_place.true

pub loop-i-preserved : goal.loop-i-preserved
loop-i-preserved c = going_next c.requires.laid c.requires.unpassed c.loop-i-test.true c.loop-i.invariant c.pass_place.ensures c.if-pass_place.false

pub returns-else-pass_place : goal.returns-else-pass_place
returns-else-pass_place c =
    let on = going_next c.requires.laid c.requires.unpassed c.loop-i-test.true c.loop-i.invariant c.pass_place.ensures c.if-pass_place.false in
    all-passed c.requires.laid c.requires.unpassed on (omega arith) (omega arith)
