-- `neighbours::target_at` meets its contract: a read of the link, and of its end.
-- Rests on Reading.
use Rattle.std.proofs.Common.{◌∙◌}
use Rattle.neighbours.proofs.Reading.{has_listed, target_is}
use Rattle.neighbours.proofs.target_at.Goals as goal

pub link_to-requires : goal.link_to-requires
link_to-requires c = has_listed c.requires.outgoing c.requires.i_lt_links c.word_at-k.ensures

pub returns : goal.returns
returns c = c.link_to.ensures ∙ target_is c.requires.outgoing c.requires.i_lt_links c.word_at-k.ensures
