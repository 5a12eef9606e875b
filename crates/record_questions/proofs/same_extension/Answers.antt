-- `record_questions::same_extension` meets its contract: the buffer lies within the line, its words are lent in a room, and behind it stand the answer and the buffer.
-- Rests on recorded's Asked and Bounds.
use Rattle.std.proofs.Common.{Bool, List, ap, arith, drop, get_or, rules, ℕ, ◌∙◌}
use Rattle.lists.specs.Lists.{same}
use Rattle.paper.specs.Calls.{LeftWith, Written, try_extend_intervals}
use Rattle.recorded.specs.Parts.{behind, list_at}
use Rattle.recorded.specs.Answers.{with_list, written_words}
use Rattle.recorded.specs.Questions.{same_extension}
use Rattle.recorded.proofs.Bounds.{within}
use Rattle.recorded.proofs.Asked.{not-true, no_records, no_room, has_room, nowhere, lacks, ends, lent, part_length, part-size, one_with}
use Rattle.record_questions.proofs.same_extension.Goals as goal

pub returns-in_default : goal.returns-in_default
unfolding same_extension
returns-in_default c = record { value = nowhere (get_or c.args.words.now 3 0) 7680 _ (no_records c.args.words.now (behind c.args.words.now 3) _ _ (omega (arith, lacks c.args.words.now 3 c.list_at-buffer.ensures c.in_default.is))); cleared = not-true }

pub overflow_sub-size : goal.overflow_sub-size
overflow_sub-size c = let part = within _ _ c.list_at-buffer.ensures c.in-Some.is in search rules

pub returns-then-size-gt7680 : goal.returns-then-size-gt7680
unfolding same_extension
returns-then-size-gt7680 c = record { value = no_room (get_or c.args.words.now 3 0) 7680 _ (omega (arith, part-size c.args.words.now 3 c.list_at-buffer.ensures c.in-Some.is)); cleared = not-true }

pub offset_bounds-words-from : goal.offset_bounds-words-from
offset_bounds-words-from c = let part = within _ _ c.list_at-buffer.ensures c.in-Some.is in search rules

pub slice_bounds-copy_out-count : goal.slice_bounds-copy_out-count
slice_bounds-copy_out-count c = let part = within _ _ c.list_at-buffer.ensures c.in-Some.is in search rules

pub slice_bounds-copy_out-start : goal.slice_bounds-copy_out-start
slice_bounds-copy_out-start c = let part = within _ _ c.list_at-buffer.ensures c.in-Some.is in search rules

pub slice_bounds-copy_out-end : goal.slice_bounds-copy_out-end
slice_bounds-copy_out-end c = let part = within _ _ c.list_at-buffer.ensures c.in-Some.is in search rules

pub copy_out-requires : goal.copy_out-requires
copy_out-requires c = (omega (arith, part_length c.args.words.now 3 c.list_at-buffer.ensures c.in-Some.is), omega (arith, c.record_room-room.ensures))

pub bounds-words-1 : goal.bounds-words-1
bounds-words-1 c = let part = within _ _ c.list_at-buffer.ensures c.in-Some.is in omega (arith, part.inside, ends c.args.words.now 3 c.list_at-buffer.ensures c.in-Some.is)

pub bounds-words-2 : goal.bounds-words-2
bounds-words-2 c = let part = within _ _ c.list_at-buffer.ensures c.in-Some.is in omega (arith, part.inside, ends c.args.words.now 3 c.list_at-buffer.ensures c.in-Some.is)

pub extends_to-requires : goal.extends_to-requires
extends_to-requires c = let part = within _ _ c.list_at-buffer.ensures c.in-Some.is in search rules

pub returns : goal.returns
unfolding same_extension
returns c = let told : LeftWith Written → Bool = λ l. same (drop (behind c.args.words.now 3) c.args.words.now) (with_list (written_words l.answer) l.buffer) in record {
  value = has_room (get_or c.args.words.now 3 0) 7680 _ (omega (arith, part-size c.args.words.now 3 c.list_at-buffer.ensures c.in-Some.is))
      (
      one_with c.args.words.now 3 c.list_at-buffer.ensures c.in-Some.is written_words (λ (l : List ℕ). try_extend_intervals c.args.map.now c.args.area.now l c.from.result c.from-2.result)
      (lent c.args.words.now 3 c.list_at-buffer.ensures c.in-Some.is c.record_room-room.result c.record_room-room.ensures (omega arith) c.copy_out.ensures)
      c.extends_to.ensures.value
      ∙ ap (λ (n : ℕ). told (try_extend_intervals c.args.map.now c.args.area.now (list_at c.args.words.now 3) n c.from-2.result)) c.from.ensures
      ∙ ap (λ (v : ℕ). told (try_extend_intervals c.args.map.now c.args.area.now (list_at c.args.words.now 3) (get_or c.args.words.now 1 0) v)) c.from-2.ensures
      );
  cleared = (λ _. c.extends_to.ensures.cleared);
}
