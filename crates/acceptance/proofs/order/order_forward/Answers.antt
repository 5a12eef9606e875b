-- `acceptance::order::order_forward` meets its contract: the order is lent as a part of the area, and the kept places are places in it.
-- Rests on Ordering.
use Rattle.std.proofs.Common.{ap, arith, not}
use Rattle.acceptance.proofs.Ordering.{linking, not_once, ordered}
use Rattle.acceptance.proofs.order.order_forward.Goals as goal

pub returns-then-not-each_once : goal.returns-then-not-each_once
returns-then-not-each_once c = not_once c.requires c.each_once.ensures.says (ap not c.if-not-each_once.true)

pub links_forward-requires : goal.links_forward-requires
links_forward-requires c = linking c.requires (omega (arith, c.each_once.auto.places))

pub returns : goal.returns
returns c = ordered c.requires c.each_once.ensures.says (ap not c.if-not-each_once.false) c.each_once.ensures.kept_upto c.links_forward.ensures
