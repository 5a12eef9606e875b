-- `line_tables::spread::spread` meets its contract: each step finds what the one before it left.
-- Rests on Spreading.
use Rattle.line_tables.proofs.Spreading.{tabled, starting, widths, spreads}
use Rattle.line_tables.proofs.spread.spread.Goals as goal

pub source_keys-requires : goal.source_keys-requires
source_keys-requires c = tabled c.requires c.links_by_input.ensures

pub out_starts-requires : goal.out_starts-requires
out_starts-requires c = starting c.requires c.links_by_input.ensures c.source_keys.ensures

pub node_starts-requires : goal.node_starts-requires
node_starts-requires c = widths c.requires c.links_by_input.ensures c.source_keys.ensures c.out_starts.ensures

pub returns : goal.returns
returns c = spreads c.requires c.links_by_input.ensures c.source_keys.ensures c.out_starts.ensures c.node_starts.ensures
