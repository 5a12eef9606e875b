-- `back_path::writing::source_at` meets its contract: a read of the link, and of its start.
-- Rests on neighbours' Reading.
use Rattle.std.proofs.Common.{arith, ◌∙◌}
use Rattle.neighbours.proofs.Reading.{has_listed, source_is}
use Rattle.back_path.proofs.writing.source_at.Goals as goal

pub word_at-k-requires : goal.word_at-k-requires
word_at-k-requires c = omega (arith, c.requires.sourced.linked, c.requires.sourced.linked.read.links, c.requires.i_bound)

pub link_from-requires : goal.link_from-requires
link_from-requires c = has_listed c.requires.sourced.linked (omega (arith, c.requires.sourced.linked.read.links, c.requires.i_bound)) c.word_at-k.ensures

pub returns : goal.returns
returns c = c.link_from.ensures
    ∙ source_is c.requires.sourced.linked (omega (arith, c.requires.sourced.linked.read.links, c.requires.i_bound)) c.word_at-k.ensures
