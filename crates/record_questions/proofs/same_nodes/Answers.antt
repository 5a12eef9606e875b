-- `record_questions::same_nodes` meets its contract: the lists stand one behind the other, the buffer's words are lent in a room, and behind them stand the answer and the buffer.
-- Rests on recorded's Asked and Bounds.
use Rattle.std.proofs.Common.{Bool, List, ap, arith, drop, get_or, rules, ℕ, ◌∙◌}
use Rattle.lists.specs.Lists.{same}
use Rattle.paper.specs.Calls.{LeftWith, nodes_in_intervals}
use Rattle.recorded.specs.Parts.{behind, list_at}
use Rattle.recorded.specs.Answers.{with_list, count_words}
use Rattle.recorded.specs.Questions.{same_nodes}
use Rattle.recorded.proofs.Bounds.{within}
use Rattle.recorded.proofs.Asked.{not-true, no_nodes, no_room, has_room, nowhere, lacks, lacks_second, ends, lent, part_length, second-size, two_with}
use Rattle.record_questions.proofs.same_nodes.Goals as goal

pub returns-in_default : goal.returns-in_default
unfolding same_nodes
returns-in_default c = record {
  value = nowhere (get_or c.args.words.now (behind c.args.words.now 2) 0) 7680 _
      (no_nodes c.args.words.now (behind c.args.words.now (behind c.args.words.now 2)) _ _ (omega (arith, lacks c.args.words.now 2 c.list_at-records.ensures c.in_default.is)));
  cleared = not-true;
}

pub returns-in_default-buffer : goal.returns-in_default-buffer
unfolding same_nodes
returns-in_default-buffer c = record {
  value = nowhere (get_or c.args.words.now (behind c.args.words.now 2) 0) 7680 _
      (no_nodes c.args.words.now (behind c.args.words.now (behind c.args.words.now 2)) _ _ (omega (arith, lacks_second c.args.words.now 2 c.list_at-records.ensures c.in-Some.is c.list_at-buffer.ensures c.in_default-buffer.is)));
  cleared = not-true;
}

pub overflow_sub-size : goal.overflow_sub-size
overflow_sub-size c = let part = within _ _ c.list_at-buffer.ensures c.in-Some-buffer.is in search rules

pub returns-then-size-gt7680 : goal.returns-then-size-gt7680
unfolding same_nodes
returns-then-size-gt7680 c = record { value = no_room (get_or c.args.words.now (behind c.args.words.now 2) 0) 7680 _ (omega (arith, second-size c.args.words.now 2 c.list_at-records.ensures c.in-Some.is c.list_at-buffer.ensures c.in-Some-buffer.is)); cleared = not-true }

pub offset_bounds-words-start : goal.offset_bounds-words-start
offset_bounds-words-start c = let part = within _ _ c.list_at-buffer.ensures c.in-Some-buffer.is in search rules

pub slice_bounds-copy_out-count : goal.slice_bounds-copy_out-count
slice_bounds-copy_out-count c = let part = within _ _ c.list_at-buffer.ensures c.in-Some-buffer.is in search rules

pub slice_bounds-copy_out-start : goal.slice_bounds-copy_out-start
slice_bounds-copy_out-start c = let part = within _ _ c.list_at-buffer.ensures c.in-Some-buffer.is in search rules

pub slice_bounds-copy_out-end : goal.slice_bounds-copy_out-end
slice_bounds-copy_out-end c = let part = within _ _ c.list_at-buffer.ensures c.in-Some-buffer.is in search rules

pub copy_out-requires : goal.copy_out-requires
copy_out-requires c = (omega (arith, part_length c.args.words.now _ c.list_at-buffer.ensures c.in-Some-buffer.is), omega (arith, c.record_room-room.ensures))

pub offset_bounds-words-from : goal.offset_bounds-words-from
offset_bounds-words-from c = let part = within _ _ c.list_at-records.ensures c.in-Some.is in search rules

pub slice_bounds-nodes_into-count : goal.slice_bounds-nodes_into-count
slice_bounds-nodes_into-count c = let part = within _ _ c.list_at-records.ensures c.in-Some.is in search rules

pub slice_bounds-nodes_into-start : goal.slice_bounds-nodes_into-start
slice_bounds-nodes_into-start c = let part = within _ _ c.list_at-records.ensures c.in-Some.is in search rules

pub slice_bounds-nodes_into-end : goal.slice_bounds-nodes_into-end
slice_bounds-nodes_into-end c = let part = within _ _ c.list_at-records.ensures c.in-Some.is in search rules

pub bounds-words-1 : goal.bounds-words-1
bounds-words-1 c = let part = within _ _ c.list_at-records.ensures c.in-Some.is in omega (arith, part.inside, ends c.args.words.now 2 c.list_at-records.ensures c.in-Some.is)

pub nodes_into-requires : goal.nodes_into-requires
nodes_into-requires c = let part = within _ _ c.list_at-buffer.ensures c.in-Some-buffer.is in search rules

pub returns : goal.returns
unfolding same_nodes
returns c = let told : LeftWith ℕ → Bool = λ l. same (drop (behind c.args.words.now (behind c.args.words.now 2)) c.args.words.now) (with_list (count_words l.answer) l.buffer) in record {
  value = has_room (get_or c.args.words.now (behind c.args.words.now 2) 0) 7680 _ (omega (arith, second-size c.args.words.now 2 c.list_at-records.ensures c.in-Some.is c.list_at-buffer.ensures c.in-Some-buffer.is))
      (
      two_with c.args.words.now 2 c.list_at-records.ensures c.in-Some.is c.list_at-buffer.ensures c.in-Some-buffer.is count_words (λ (l m : List ℕ). nodes_in_intervals c.args.map.now c.args.area.now l c.from.result m)
      (lent c.args.words.now _ c.list_at-buffer.ensures c.in-Some-buffer.is c.record_room-room.result c.record_room-room.ensures (omega arith) c.copy_out.ensures)
      c.nodes_into.ensures.value
      ∙ ap (λ (n : ℕ). told (nodes_in_intervals c.args.map.now c.args.area.now (list_at c.args.words.now 2) n (list_at c.args.words.now (behind c.args.words.now 2)))) c.from.ensures
      );
  cleared = (λ _. c.nodes_into.ensures.cleared);
}
