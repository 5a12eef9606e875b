-- `record_questions::same_record_check` meets its contract: the records lie within the line, and behind them stands the answer.
-- Rests on recorded's Asked and Bounds.
use Rattle.std.proofs.Common.{Bool, List, ap, arith, drop, rules, ℕ, ◌∙◌}
use Rattle.lists.specs.Lists.{same}
use Rattle.paper.specs.Intervals.{Reply}
use Rattle.paper.specs.Calls.{Left, call, is_convex_by_intervals}
use Rattle.recorded.specs.Parts.{behind, list_at}
use Rattle.recorded.specs.Answers.{line_words}
use Rattle.recorded.specs.Questions.{same_record_check}
use Rattle.recorded.proofs.Bounds.{within}
use Rattle.recorded.proofs.Asked.{not-true, no_line, lacks, ends, one_list}
use Rattle.record_questions.proofs.same_record_check.Goals as goal

pub returns-in_default : goal.returns-in_default
unfolding same_record_check
returns-in_default c = record { value = no_line c.args.words.now (behind c.args.words.now 2) _ (omega (arith, lacks c.args.words.now 2 c.list_at-records.ensures c.in_default.is)); cleared = not-true }

pub bounds-words-1 : goal.bounds-words-1
bounds-words-1 c = let part = within _ _ c.list_at-records.ensures c.in-Some.is in omega (arith, part.inside, ends c.args.words.now 2 c.list_at-records.ensures c.in-Some.is)

pub offset_bounds-words-from : goal.offset_bounds-words-from
offset_bounds-words-from c = let part = within _ _ c.list_at-records.ensures c.in-Some.is in search rules

pub slice_bounds-is_convex_by_intervals-count : goal.slice_bounds-is_convex_by_intervals-count
slice_bounds-is_convex_by_intervals-count c = let part = within _ _ c.list_at-records.ensures c.in-Some.is in search rules

pub slice_bounds-is_convex_by_intervals-start : goal.slice_bounds-is_convex_by_intervals-start
slice_bounds-is_convex_by_intervals-start c = let part = within _ _ c.list_at-records.ensures c.in-Some.is in search rules

pub slice_bounds-is_convex_by_intervals-end : goal.slice_bounds-is_convex_by_intervals-end
slice_bounds-is_convex_by_intervals-end c = let part = within _ _ c.list_at-records.ensures c.in-Some.is in search rules

pub is_line_answer-requires : goal.is_line_answer-requires
is_line_answer-requires c = let part = within _ _ c.list_at-records.ensures c.in-Some.is in search rules

pub returns : goal.returns
unfolding same_record_check is_convex_by_intervals call
returns c = let told : Left (Reply × ℕ) → Bool = λ l. same (drop (behind c.args.words.now 2) c.args.words.now) (line_words l.answer) in record {
  value = one_list c.args.words.now 2 c.list_at-records.ensures c.in-Some.is line_words (λ (l : List ℕ). is_convex_by_intervals c.args.map.now c.args.area.now l c.from-count.result) c.is_convex_by_intervals-answer.ensures
      c.is_line_answer.ensures
      ∙ ap (λ (n : ℕ). told (is_convex_by_intervals c.args.map.now c.args.area.now (list_at c.args.words.now 2) n)) c.from-count.ensures;
  cleared = (λ _. ap (λ (l : Left (Reply × ℕ)). l.area) c.is_convex_by_intervals-answer.ensures);
}
