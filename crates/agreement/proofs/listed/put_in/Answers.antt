-- `agreement::listed::put_in` meets its contract: the words' section of the room, lent and copied over, comes back as so many stores.
-- Rests on words.
use Rattle.std.proofs.Common.{arith}
use Rattle.words.proofs.Turns.{put_back}
use Rattle.agreement.proofs.listed.put_in.Goals as goal

pub returns : goal.returns
returns c = put_back _ _ _ _ c.copy_from_slice.ensures.after (omega arith) c.requires
