-- `varddohas::path_export::varddohas_show_path` meets its contract: the call is asked on the words that cross, and what it leaves is put back;
-- and what is told, with what stands in the buffer, keeps the path's promise. Rests on Exported, Promises and crossing's Crossed.
use Rattle.std.proofs.Common.{rules}
use Rattle.paper.specs.Calls.{show_path}
use Rattle.paper.specs.Words.{words_from}
use Rattle.crossing.proofs.Crossed.{path_crosses}
use Rattle.varddohas.proofs.Exported.{held-read, room-back_with, exported_with}
use Rattle.varddohas.proofs.Promises.{path-kept}
use Rattle.varddohas.proofs.path_export.varddohas_show_path.Goals as goal

pub slice_bounds-put_words-end : goal.slice_bounds-put_words-end
slice_bounds-put_words-end c = let held = held-read _ _ c.area_room-room.ensures c.read_area-words.ensures in
    room-back_with held
    (λ a. show_path c.args.map.now a (words_from c.args.list.now) (words_from c.args.buffer.now))
    (path_crosses _ _ _ _) c.args.buffer.now c.show_path-answer.ensures

pub returns : goal.returns
returns c = let held = held-read _ _ c.area_room-room.ensures c.read_area-words.ensures in
    let same =
    exported_with held
    (λ a. show_path c.args.map.now a (words_from c.args.list.now) (words_from c.args.buffer.now))
    (path_crosses _ _ _ _) c.args.buffer.now c.show_path-answer.ensures
    (λ i. search rules) c.put_words.ensures _ _ _ _ c.tell_written.ensures.shown
    in
    record { buffer_after = same; path_promise = path-kept _ _ _ _ _ same }
