-- `varddohas::prepare_export::varddohas_prepare` meets its contract: the call is asked on the words that cross, and what it leaves is put back.
-- Rests on Exported and crossing's Crossed.
use Rattle.std.proofs.Common.{rules}
use Rattle.paper.specs.Calls.{prepare}
use Rattle.crossing.proofs.Crossed.{prepare_crosses}
use Rattle.varddohas.proofs.Exported.{held-read, room_back, exported}
use Rattle.varddohas.proofs.prepare_export.varddohas_prepare.Goals as goal

pub slice_bounds-put_words-end : goal.slice_bounds-put_words-end
slice_bounds-put_words-end c = let held = held-read _ _ c.area_room-room.ensures c.read_area-words.ensures in
    room_back held (prepare c.args.map.now) (prepare_crosses _ _) c.prepare-answer.ensures

pub returns : goal.returns
returns c = let held = held-read _ _ c.area_room-room.ensures c.read_area-words.ensures in
    exported held
    (prepare c.args.map.now)
    (prepare_crosses _ _) c.prepare-answer.ensures
    (λ i. search rules) c.put_words.ensures _ _ _ _ c.tell_count.ensures
