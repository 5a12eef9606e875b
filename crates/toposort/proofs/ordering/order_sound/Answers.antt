-- `toposort::ordering::order_sound` meets its contract: no cycle leaves what was laid, a cycle leaves the words at 0.
-- Rests on Composing and Refusing.
use Rattle.toposort.proofs.Composing.{free, indexed, order-laid}
use Rattle.toposort.proofs.Refusing.{all-ordered, cycle-found}
use Rattle.toposort.proofs.ordering.order_sound.Goals as goal

pub lay_outgoing-links-requires : goal.lay_outgoing-links-requires
lay_outgoing-links-requires c = free c.requires

pub toposort-requires : goal.toposort-requires
toposort-requires c = indexed c.requires c.lay_outgoing-links.ensures

pub returns-in-Ok : goal.returns-in-Ok
returns-in-Ok c = all-ordered (order-laid c.requires c.lay_outgoing-links.ensures c.toposort.ensures.1) c.in-Ok.ensures.0

pub returns-in-Err : goal.returns-in-Err
returns-in-Err c = cycle-found (order-laid c.requires c.lay_outgoing-links.ensures c.toposort.ensures.1) c.in-Err.ensures.0 c.fill.ensures
