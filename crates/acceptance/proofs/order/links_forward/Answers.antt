-- `acceptance::order::links_forward` meets its contract: the links passed go forward, and the first that does not decides.
-- Rests on Places and lists.AllAny.
use Rattle.std.proofs.Common.{arith, below_more, get_or, ltb}
use Rattle.lists.proofs.AllAny.{all_through}
use Rattle.paper.specs.Map.{link_from, link_to}
use Rattle.acceptance.proofs.Places.{link-back, link-ahead}
use Rattle.acceptance.proofs.order.links_forward.Goals as goal

pub returns-then-places-from : goal.returns-then-places-from
returns-then-places-from c = link-back c.args.b.now c.args.places.now c.loop-k.k c.link_from-from.ensures c.link_to-to.ensures c.loop-k-test.true (omega (arith, c.if-places-from.true))

pub loop-k-preserved : goal.loop-k-preserved
loop-k-preserved c = below_more _ _ c.loop-k.invariant (link-ahead c.args.b.now c.args.places.now c.loop-k.k c.link_from-from.ensures c.link_to-to.ensures (omega (arith, c.if-places-from.false)))

pub returns : goal.returns
returns c = all_through (λ j. ltb (get_or c.args.places.now (link_from c.args.b.now j) 0) (get_or c.args.places.now (link_to c.args.b.now j) 0)) c.loop-k-test.false c.loop-k.invariant
