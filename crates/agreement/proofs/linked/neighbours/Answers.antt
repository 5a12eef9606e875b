-- `agreement::linked::neighbours` meets its contract: the neighbours on the lines passed stand at the fronts.
-- Rests on Line.
use Rattle.std.proofs.Common.{arith, refl, rules}
use mathlib.Core.List.{flat_map}
use Rattle.agreement.specs.Lists.{fronts, backs}
use Rattle.agreement.proofs.Line.{inside, least, front_fits, back_fits, fronts-next, backs-next}
use Rattle.agreement.proofs.linked.neighbours.Goals as goal

pub loop-x-init : goal.loop-x-init
unfolding fronts backs flat_map
loop-x-init c = (refl, refl)

pub overflow_sub-from : goal.overflow_sub-from
overflow_sub-from c = least c.requires.tables c.loop-x-test.true c.word_at-from.ensures c.word_at-to.ensures

pub slice_bounds-put_in-end : goal.slice_bounds-put_in-end
slice_bounds-put_in-end c =
    let fits = inside c.requires.tables c.loop-x-test.true c.word_at-from.ensures c.word_at-to.ensures in
    search rules

pub put_in-requires : goal.put_in-requires
put_in-requires c =
    let fit = front_fits c.requires.tables c.loop-x-test.true c.word_at-from.ensures c.word_at-to.ensures in
    omega arith

pub overflow_sub-from-in-loop-x : goal.overflow_sub-from-in-loop-x
overflow_sub-from-in-loop-x c = least c.requires.tables c.loop-x-test.true c.word_at-from.ensures c.word_at-to.ensures

pub slice_bounds-put_in-end-in-loop-x : goal.slice_bounds-put_in-end-in-loop-x
slice_bounds-put_in-end-in-loop-x c =
    let fits = inside c.requires.tables c.loop-x-test.true c.word_at-from.ensures c.word_at-to.ensures in
    search rules

pub put_in-requires-in-loop-x : goal.put_in-requires-in-loop-x
put_in-requires-in-loop-x c =
    let fit = back_fits c.requires.tables c.loop-x-test.true c.word_at-from.ensures c.word_at-to.ensures in
    omega arith

pub loop-x-preserved : goal.loop-x-preserved
loop-x-preserved c = (
  fronts-next c.requires.tables c.loop-x-test.true c.word_at-from.ensures c.word_at-to.ensures c.args.froms.now c.loop-x.invariant.0 c.put_in.ensures,
  backs-next c.requires.tables c.loop-x-test.true c.word_at-from.ensures c.word_at-to.ensures c.args.tos.now c.loop-x.invariant.1 c.put_in-in-loop-x.ensures,
)
