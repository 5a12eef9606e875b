-- `back_path::writing::sources_start` meets its contract: two reads, the second at the place that the first gives.
-- Rests on neighbours' Reading.
use Rattle.std.proofs.Common.{◌∙◌}
use Rattle.neighbours.proofs.Reading.{start-inside, in_start_lem}
use Rattle.back_path.proofs.writing.sources_start.Goals as goal

pub word_at-requires : goal.word_at-requires
word_at-requires c = start-inside c.requires.sourced.linked c.requires.v_le_nodes c.word_at-first.ensures

pub returns : goal.returns
returns c = c.word_at.ensures ∙ in_start_lem c.requires.sourced.linked c.requires.v_le_nodes c.word_at-first.ensures
