-- `varddohas::line_exports::varddohas_is_convex_by_intervals` meets its contract: the call is asked on the words that cross, and what it leaves is put back.
-- Rests on Exported and crossing's Crossed.
use Rattle.std.proofs.Common.{rules}
use Rattle.paper.specs.Calls.{is_convex_by_intervals}
use Rattle.paper.specs.Words.{words_from}
use Rattle.crossing.proofs.Crossed.{records_cross}
use Rattle.varddohas.proofs.Exported.{held-read, room_back, exported}
use Rattle.varddohas.proofs.line_exports.varddohas_is_convex_by_intervals.Goals as goal

pub slice_bounds-put_words-end : goal.slice_bounds-put_words-end
slice_bounds-put_words-end c = let held = held-read _ _ c.area_room-room.ensures c.read_area-words.ensures in
    room_back held
    (λ a. is_convex_by_intervals c.args.map.now a (words_from c.args.records.now) c.args.many)
    (records_cross _ _ _ _) c.is_convex_by_intervals-answer.ensures

pub returns : goal.returns
returns c = let held = held-read _ _ c.area_room-room.ensures c.read_area-words.ensures in
    exported held
    (λ a. is_convex_by_intervals c.args.map.now a (words_from c.args.records.now) c.args.many)
    (records_cross _ _ _ _) c.is_convex_by_intervals-answer.ensures
    (λ i. search rules) c.put_words.ensures _ _ _ _ c.tell_line.ensures
