-- `port_conflict::links::target_port` meets its contract: first port and offset add up to the port, which is small.
-- Rests on Ends.
use Rattle.std.proofs.Common.{arith}
use Rattle.port_conflict.proofs.Ends.{target_first, target_is, target_small}
use Rattle.port_conflict.proofs.links.target_port.Goals as goal

pub word_at-requires : goal.word_at-requires
word_at-requires c = target_first c.requires.laid c.requires.k_lt_links c.link_to-v.ensures

pub overflow_add-result : goal.overflow_add-result
overflow_add-result c = omega (
  arith,
  target_small c.requires.laid c.requires.k_lt_links,
  target_is c.requires.laid c.requires.k_lt_links c.link_to-v.ensures c.word_at.ensures c.link_in.ensures,
)

pub returns : goal.returns
returns c = target_is c.requires.laid c.requires.k_lt_links c.link_to-v.ensures c.word_at.ensures c.link_in.ensures
