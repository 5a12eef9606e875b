-- `extension::copy_words` meets its contract: the room's first words are the copied ones, and the others stand as they stood.
-- Rests on Putting.
use Rattle.extension.proofs.Putting.{copied}
use Rattle.extension.proofs.copy_words.Goals as goal

pub returns : goal.returns
returns c = copied c.requires.0 c.requires.1 c.copy_from_slice.ensures.after
