-- `list_questions::same_intervals` meets its contract: the lists stand one behind the other, the buffer's words are lent in a room, and behind them stand the answer and the buffer.
-- Rests on recorded's Asked and Bounds.
use Rattle.std.proofs.Common.{List, arith, get_or, rules, ℕ}
use Rattle.paper.specs.Calls.{get_intervals_from_nodes}
use Rattle.recorded.specs.Parts.{behind}
use Rattle.recorded.specs.Answers.{written_words}
use Rattle.recorded.specs.Questions.{same_intervals}
use Rattle.recorded.proofs.Bounds.{within}
use Rattle.recorded.proofs.Asked.{not-true, no_records, no_room, has_room, nowhere, lacks, lacks_second, lent, part_length, second-size, two_with}
use Rattle.list_questions.proofs.same_intervals.Goals as goal

pub returns-in_default : goal.returns-in_default
unfolding same_intervals
returns-in_default c = record {
  value = nowhere (get_or c.args.words.now (behind c.args.words.now 1) 0) 7680 _
      (no_records c.args.words.now (behind c.args.words.now (behind c.args.words.now 1)) _ _ (omega (arith, lacks c.args.words.now 1 c.list_at-list.ensures c.in_default.is)));
  cleared = not-true;
}

pub returns-in_default-buffer : goal.returns-in_default-buffer
unfolding same_intervals
returns-in_default-buffer c = record {
  value = nowhere (get_or c.args.words.now (behind c.args.words.now 1) 0) 7680 _
      (no_records c.args.words.now (behind c.args.words.now (behind c.args.words.now 1)) _ _ (omega (arith, lacks_second c.args.words.now 1 c.list_at-list.ensures c.in-Some.is c.list_at-buffer.ensures c.in_default-buffer.is)));
  cleared = not-true;
}

pub overflow_sub-size : goal.overflow_sub-size
overflow_sub-size c = let part = within _ _ c.list_at-buffer.ensures c.in-Some-buffer.is in search rules

pub returns-then-size-gt7680 : goal.returns-then-size-gt7680
unfolding same_intervals
returns-then-size-gt7680 c = record { value = no_room (get_or c.args.words.now (behind c.args.words.now 1) 0) 7680 _ (omega (arith, second-size c.args.words.now 1 c.list_at-list.ensures c.in-Some.is c.list_at-buffer.ensures c.in-Some-buffer.is)); cleared = not-true }

pub offset_bounds-words-start : goal.offset_bounds-words-start
offset_bounds-words-start c = let part = within _ _ c.list_at-buffer.ensures c.in-Some-buffer.is in search rules

pub slice_bounds-copy_out-count : goal.slice_bounds-copy_out-count
slice_bounds-copy_out-count c = let part = within _ _ c.list_at-buffer.ensures c.in-Some-buffer.is in search rules

pub slice_bounds-copy_out-start : goal.slice_bounds-copy_out-start
slice_bounds-copy_out-start c = let part = within _ _ c.list_at-buffer.ensures c.in-Some-buffer.is in search rules

pub slice_bounds-copy_out-end : goal.slice_bounds-copy_out-end
slice_bounds-copy_out-end c = let part = within _ _ c.list_at-buffer.ensures c.in-Some-buffer.is in search rules

pub copy_out-requires : goal.copy_out-requires
copy_out-requires c = (omega (arith, part_length c.args.words.now _ c.list_at-buffer.ensures c.in-Some-buffer.is), omega (arith, c.record_room-room.ensures))

pub offset_bounds-words-from : goal.offset_bounds-words-from
offset_bounds-words-from c = let part = within _ _ c.list_at-list.ensures c.in-Some.is in search rules

pub slice_bounds-intervals_into-count : goal.slice_bounds-intervals_into-count
slice_bounds-intervals_into-count c = let part = within _ _ c.list_at-list.ensures c.in-Some.is in search rules

pub slice_bounds-intervals_into-start : goal.slice_bounds-intervals_into-start
slice_bounds-intervals_into-start c = let part = within _ _ c.list_at-list.ensures c.in-Some.is in search rules

pub slice_bounds-intervals_into-end : goal.slice_bounds-intervals_into-end
slice_bounds-intervals_into-end c = let part = within _ _ c.list_at-list.ensures c.in-Some.is in search rules

pub intervals_into-requires : goal.intervals_into-requires
intervals_into-requires c = let part = within _ _ c.list_at-buffer.ensures c.in-Some-buffer.is in search rules

pub returns : goal.returns
unfolding same_intervals
returns c = record {
  value = has_room (get_or c.args.words.now (behind c.args.words.now 1) 0) 7680 _ (omega (arith, second-size c.args.words.now 1 c.list_at-list.ensures c.in-Some.is c.list_at-buffer.ensures c.in-Some-buffer.is))
      (two_with c.args.words.now 1 c.list_at-list.ensures c.in-Some.is c.list_at-buffer.ensures c.in-Some-buffer.is written_words (λ (l m : List ℕ). get_intervals_from_nodes c.args.map.now c.args.area.now l m)
      (lent c.args.words.now _ c.list_at-buffer.ensures c.in-Some-buffer.is c.record_room-room.result c.record_room-room.ensures (omega arith) c.copy_out.ensures)
      c.intervals_into.ensures.value);
  cleared = (λ _. c.intervals_into.ensures.cleared);
}
