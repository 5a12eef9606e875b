-- `take_in::take_each` meets its contract: the entries passed are taken, none of them a repeat, and the first repeat decides.
-- Rests on Each.
use Rattle.std.proofs.Common.{ap, arith, not, sym, subst, ◌<◌}
use Rattle.take_in.proofs.Each.{each-starts, each_on, each-stops, each-ends}
use Rattle.take_in.proofs.take_each.Goals as goal

pub loop-i-init : goal.loop-i-init
loop-i-init g c = each-starts _ c.requires.taking

pub take_node-requires : goal.take_node-requires
take_node-requires g c = record {
  taking = c.loop-i.invariant.taking;
  v_lt_n = subst (λ v. v < c.args.n) (sym c.entry.ensures) (c.requires.known.entry _ (omega arith));
}

pub returns-then-not-take_node : goal.returns-then-not-take_node
returns-then-not-take_node g c = each-stops c.loop-i.invariant (omega arith) c.entry.ensures c.take_node.ensures (ap not c.if-not-take_node.true)

pub loop-i-preserved : goal.loop-i-preserved
loop-i-preserved g c = each_on c.loop-i.invariant (omega arith) c.entry.ensures c.take_node.ensures (ap not c.if-not-take_node.false)

pub returns : goal.returns
returns g c = each-ends c.loop-i.invariant (omega arith)
