-- `varddohas::line_exports::varddohas_get_intervals_from_nodes` meets its contract: the call is asked on the words that cross, and what it leaves is put back.
-- Rests on Exported and crossing's Crossed.
use Rattle.std.proofs.Common.{rules}
use Rattle.paper.specs.Calls.{get_intervals_from_nodes}
use Rattle.paper.specs.Words.{words_from}
use Rattle.crossing.proofs.Crossed.{intervals_cross}
use Rattle.varddohas.proofs.Exported.{held-read, room-back_with, exported_with}
use Rattle.varddohas.proofs.line_exports.varddohas_get_intervals_from_nodes.Goals as goal

pub slice_bounds-put_words-end : goal.slice_bounds-put_words-end
slice_bounds-put_words-end c = let held = held-read _ _ c.area_room-room.ensures c.read_area-words.ensures in
    room-back_with held
    (λ a. get_intervals_from_nodes c.args.map.now a (words_from c.args.list.now) (words_from c.args.buffer.now))
    (intervals_cross _ _ _ _) c.args.buffer.now c.get_intervals_from_nodes-answer.ensures

pub returns : goal.returns
returns c = let held = held-read _ _ c.area_room-room.ensures c.read_area-words.ensures in
    exported_with held
    (λ a. get_intervals_from_nodes c.args.map.now a (words_from c.args.list.now) (words_from c.args.buffer.now))
    (intervals_cross _ _ _ _) c.args.buffer.now c.get_intervals_from_nodes-answer.ensures
    (λ i. search rules) c.put_words.ensures _ _ _ _ c.tell_written.ensures.written
