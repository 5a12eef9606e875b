-- `list_questions::same_order_ports` meets its contract: the three lists stand one behind the other, and behind them the answer.
-- Rests on recorded's Asked and Bounds.
use Rattle.std.proofs.Common.{ap, arith, rules}
use Rattle.recorded.proofs.Bounds.{within}
use Rattle.recorded.proofs.Asked.{not-true, no_order, lacks, lacks_second, lacks_third, three_lists}
use Rattle.recorded.specs.Parts.{behind}
use Rattle.recorded.specs.Answers.{order_words}
use Rattle.recorded.specs.Questions.{same_order_ports}
use Rattle.paper.specs.Intervals.{Reply}
use Rattle.paper.specs.Calls.{Left, call, topo_is_convex}
use Rattle.list_questions.proofs.same_order_ports.Goals as goal

pub returns-in_default : goal.returns-in_default
unfolding same_order_ports
returns-in_default c = record { value = no_order c.args.words.now (behind c.args.words.now (behind c.args.words.now (behind c.args.words.now 1))) _ (omega (arith, lacks c.args.words.now 1 c.list_at-list.ensures c.in_default.is)); cleared = not-true }

pub returns-in_default-inputs : goal.returns-in_default-inputs
unfolding same_order_ports
returns-in_default-inputs c = record { value = no_order c.args.words.now (behind c.args.words.now (behind c.args.words.now (behind c.args.words.now 1))) _ (omega (arith, lacks_second c.args.words.now 1 c.list_at-list.ensures c.in-Some.is c.list_at-inputs.ensures c.in_default-inputs.is)); cleared = not-true }

pub returns-in_default-outputs : goal.returns-in_default-outputs
unfolding same_order_ports
returns-in_default-outputs c = record { value = no_order c.args.words.now (behind c.args.words.now (behind c.args.words.now (behind c.args.words.now 1))) _ (omega (arith, lacks_third c.args.words.now 1 c.list_at-list.ensures c.in-Some.is c.list_at-inputs.ensures c.in-Some-inputs.is c.list_at-outputs.ensures c.in_default-outputs.is)); cleared = not-true }

pub offset_bounds-words-from : goal.offset_bounds-words-from
offset_bounds-words-from c = let part = within _ _ c.list_at-list.ensures c.in-Some.is in search rules

pub slice_bounds-is_convex-count : goal.slice_bounds-is_convex-count
slice_bounds-is_convex-count c = let part = within _ _ c.list_at-list.ensures c.in-Some.is in search rules

pub slice_bounds-is_convex-start : goal.slice_bounds-is_convex-start
slice_bounds-is_convex-start c = let part = within _ _ c.list_at-list.ensures c.in-Some.is in search rules

pub slice_bounds-is_convex-end : goal.slice_bounds-is_convex-end
slice_bounds-is_convex-end c = let part = within _ _ c.list_at-list.ensures c.in-Some.is in search rules

pub offset_bounds-words-input : goal.offset_bounds-words-input
offset_bounds-words-input c = let part = within _ _ c.list_at-inputs.ensures c.in-Some-inputs.is in search rules

pub slice_bounds-is_convex-count-2 : goal.slice_bounds-is_convex-count-2
slice_bounds-is_convex-count-2 c = let part = within _ _ c.list_at-inputs.ensures c.in-Some-inputs.is in search rules

pub slice_bounds-is_convex-start-2 : goal.slice_bounds-is_convex-start-2
slice_bounds-is_convex-start-2 c = let part = within _ _ c.list_at-inputs.ensures c.in-Some-inputs.is in search rules

pub slice_bounds-is_convex-end-2 : goal.slice_bounds-is_convex-end-2
slice_bounds-is_convex-end-2 c = let part = within _ _ c.list_at-inputs.ensures c.in-Some-inputs.is in search rules

pub offset_bounds-words-output : goal.offset_bounds-words-output
offset_bounds-words-output c = let part = within _ _ c.list_at-outputs.ensures c.in-Some-outputs.is in search rules

pub slice_bounds-is_convex-count-3 : goal.slice_bounds-is_convex-count-3
slice_bounds-is_convex-count-3 c = let part = within _ _ c.list_at-outputs.ensures c.in-Some-outputs.is in search rules

pub slice_bounds-is_convex-start-3 : goal.slice_bounds-is_convex-start-3
slice_bounds-is_convex-start-3 c = let part = within _ _ c.list_at-outputs.ensures c.in-Some-outputs.is in search rules

pub slice_bounds-is_convex-end-3 : goal.slice_bounds-is_convex-end-3
slice_bounds-is_convex-end-3 c = let part = within _ _ c.list_at-outputs.ensures c.in-Some-outputs.is in search rules

pub is_order_answer-requires : goal.is_order_answer-requires
is_order_answer-requires c = let part = within _ _ c.list_at-outputs.ensures c.in-Some-outputs.is in search rules

pub returns : goal.returns
unfolding same_order_ports topo_is_convex call
returns c = record {
  value = three_lists c.args.words.now 1 c.list_at-list.ensures c.in-Some.is c.list_at-inputs.ensures c.in-Some-inputs.is order_words (topo_is_convex c.args.map.now c.args.area.now) c.list_at-outputs.ensures c.in-Some-outputs.is
      c.is_convex-answer.ensures.area_after
      c.is_order_answer.ensures;
  cleared = (λ _. ap (λ (l : Left Reply). l.area) c.is_convex-answer.ensures.area_after);
}
