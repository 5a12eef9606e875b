-- `port_conflict::links::source_port` meets its contract: first port, inputs and offset add up to the port, which is small.
-- Rests on Ends.
use Rattle.std.proofs.Common.{arith}
use Rattle.port_conflict.proofs.Ends.{source_first, source_record, outputs-start, source_is, source-small}
use Rattle.port_conflict.proofs.links.source_port.Goals as goal

pub word_at-requires : goal.word_at-requires
word_at-requires c = source_first c.requires.laid c.requires.k_lt_links c.link_from-v.ensures

pub num_inputs-requires : goal.num_inputs-requires
num_inputs-requires c = source_record c.requires.laid c.requires.k_lt_links c.link_from-v.ensures

pub overflow_add-result : goal.overflow_add-result
overflow_add-result c = omega (arith, outputs-start c.requires.laid c.requires.k_lt_links c.link_from-v.ensures c.word_at.ensures c.num_inputs.ensures)

pub overflow_add-result-2 : goal.overflow_add-result-2
overflow_add-result-2 c = omega (
  arith,
  source-small c.requires.laid c.requires.k_lt_links,
  source_is c.requires.laid c.requires.k_lt_links c.link_from-v.ensures c.word_at.ensures c.num_inputs.ensures c.link_out.ensures,
)

pub returns : goal.returns
returns c = source_is c.requires.laid c.requires.k_lt_links c.link_from-v.ensures c.word_at.ensures c.num_inputs.ensures c.link_out.ensures
