-- `acceptance::order::at_places` meets its contract: the words passed stand at their kept places, and the first that does not decides.
-- Rests on Places and lists.AllAny.
use Rattle.lists.proofs.AllAny.{all_through}
use Rattle.acceptance.specs.Places.{at_place}
use Rattle.acceptance.proofs.Places.{place_differs}
use Rattle.acceptance.proofs.order.at_places.Goals as goal

pub returns-then-from-i : goal.returns-then-from-i
returns-then-from-i c = place_differs c.args.order.now c.args.places.now c.loop-i-test.true c.from-v.ensures c.from.ensures c.if-from-i.true

pub returns : goal.returns
returns c = all_through (at_place c.args.order.now c.args.places.now) c.loop-i-test.false c.loop-i.invariant
