-- `topo_checker::layout::lay_out` meets its contract: each section is written behind the one before it.
-- Rests on Laying.
use Rattle.std.proofs.Common.{arith}
use Rattle.topo_checker.proofs.Laying.{free, fits, scratch-inside, ordered, laid_out}
use Rattle.topo_checker.proofs.layout.lay_out.Goals as goal

pub lay_outgoing-links-requires : goal.lay_outgoing-links-requires
lay_outgoing-links-requires c = free c.requires

pub overflow_add-future : goal.overflow_add-future
overflow_add-future c = omega (arith, fits c.requires c.lay_outgoing-links.ensures, scratch-inside c.requires)

pub overflow_add-places : goal.overflow_add-places
overflow_add-places c = omega (arith, fits c.requires c.lay_outgoing-links.ensures, scratch-inside c.requires)

pub keep_places-requires : goal.keep_places-requires
keep_places-requires c = ordered c.requires c.lay_outgoing-links.ensures

pub overflow_mul-at : goal.overflow_mul-at
overflow_mul-at c = omega (arith, c.requires.read.few-nodes)

pub fill-requires : goal.fill-requires
fill-requires c = omega (
  arith,
  fits c.requires c.lay_outgoing-links.ensures,
  scratch-inside c.requires,
  c.lay_outgoing-links.ensures.kept.long,
  c.keep_places.ensures.kept.long,
)

pub returns : goal.returns
returns c = laid_out c.requires c.lay_outgoing-links.ensures c.keep_places.ensures c.fill.ensures
