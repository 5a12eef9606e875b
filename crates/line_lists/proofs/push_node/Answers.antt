-- `line_lists::push_node` meets its contract: before entry e of the row, the entries before it are pushed.
-- Rests on Row.
use Rattle.std.proofs.Common.{arith, length, length-set, ◌+◌, ◌<◌, ◌∙◌}
use Rattle.line_lists.proofs.Row.{none-pushed, all-pushed, cursor_inside, spot_room, spot_word, pushed-on}
use Rattle.line_lists.proofs.push_node.Goals as goal

pub loop-e-init : goal.loop-e-init
loop-e-init c = none-pushed c.requires c.from-start.result

pub bounds-area-q : goal.bounds-area-q
bounds-area-q c = cursor_inside c.requires c.from-start.ensures c.from-end.ensures
    c.loop-e.auto.e c.loop-e-test.true c.loop-e.invariant c.from.ensures

pub bounds-area-nodes : goal.bounds-area-nodes
bounds-area-nodes c = omega (
  arith,
  c.from-in-loop-e.ensures,
  spot_room c.requires c.from-start.ensures c.from-end.ensures
      c.loop-e.auto.e c.loop-e-test.true c.loop-e.invariant c.from.ensures,
)

pub overflow_add-area-in-loop-e : goal.overflow_add-area-in-loop-e
overflow_add-area-in-loop-e c = record {
  fits =
      spot_word c.requires c.from-start.ensures c.from-end.ensures
      c.loop-e.auto.e c.loop-e-test.true c.loop-e.invariant c.from.ensures;
}

pub bounds-area-q-in-loop-e : goal.bounds-area-q-in-loop-e
bounds-area-q-in-loop-e c =
    let at-cursor : c.args.cursors + c.from.result < length c.loop-e.area = cursor_inside c.requires c.from-start.ensures c.from-end.ensures
    c.loop-e.auto.e c.loop-e-test.true c.loop-e.invariant c.from.ensures in
    simp length-set at-cursor

pub loop-e-preserved : goal.loop-e-preserved
loop-e-preserved c = pushed-on c.requires c.from-start.ensures c.from-end.ensures
    c.loop-e.auto.e c.loop-e-test.true c.loop-e.invariant c.from.ensures c.from-in-loop-e.ensures

pub returns : goal.returns
returns c = c.loop-e.invariant ∙ all-pushed c.requires c.from-start.ensures c.from-end.ensures c.loop-e-test.false
