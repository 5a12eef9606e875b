-- `neighbours::targets_start` meets its contract: two reads, the second at the place that the first gives.
-- Rests on Reading.
use Rattle.std.proofs.Common.{◌∙◌}
use Rattle.neighbours.proofs.Reading.{start-inside, out-start}
use Rattle.neighbours.proofs.targets_start.Goals as goal

pub word_at-requires : goal.word_at-requires
word_at-requires c = start-inside c.requires.outgoing c.requires.v_le_nodes c.word_at-first.ensures

pub returns : goal.returns
returns c = c.word_at.ensures ∙ out-start c.requires.outgoing c.requires.v_le_nodes c.word_at-first.ensures
