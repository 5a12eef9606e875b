-- `list_questions::same_order_check` meets its contract: the list lies within the line, and behind it stands the answer.
-- Rests on recorded's Asked and Bounds.
use Rattle.std.proofs.Common.{ap, arith, rules}
use Rattle.recorded.proofs.Bounds.{within}
use Rattle.recorded.proofs.Asked.{not-true, no_order, lacks, one_list}
use Rattle.recorded.specs.Parts.{behind}
use Rattle.recorded.specs.Answers.{order_words}
use Rattle.recorded.specs.Questions.{same_order_check}
use Rattle.paper.specs.Intervals.{Reply}
use Rattle.paper.specs.Calls.{Left, call, topo_is_node_convex}
use Rattle.list_questions.proofs.same_order_check.Goals as goal

pub returns-in_default : goal.returns-in_default
unfolding same_order_check
returns-in_default c = record { value = no_order c.args.words.now (behind c.args.words.now 1) _ (omega (arith, lacks c.args.words.now 1 c.list_at-list.ensures c.in_default.is)); cleared = not-true }

pub offset_bounds-words-from : goal.offset_bounds-words-from
offset_bounds-words-from c = let part = within _ _ c.list_at-list.ensures c.in-Some.is in search rules

pub slice_bounds-is_node_convex-count : goal.slice_bounds-is_node_convex-count
slice_bounds-is_node_convex-count c = let part = within _ _ c.list_at-list.ensures c.in-Some.is in search rules

pub slice_bounds-is_node_convex-start : goal.slice_bounds-is_node_convex-start
slice_bounds-is_node_convex-start c = let part = within _ _ c.list_at-list.ensures c.in-Some.is in search rules

pub slice_bounds-is_node_convex-end : goal.slice_bounds-is_node_convex-end
slice_bounds-is_node_convex-end c = let part = within _ _ c.list_at-list.ensures c.in-Some.is in search rules

pub is_order_answer-requires : goal.is_order_answer-requires
is_order_answer-requires c = let part = within _ _ c.list_at-list.ensures c.in-Some.is in search rules

pub returns : goal.returns
unfolding same_order_check topo_is_node_convex call
returns c = record { value = one_list c.args.words.now 1 c.list_at-list.ensures c.in-Some.is order_words (topo_is_node_convex c.args.map.now c.args.area.now) c.is_node_convex-answer.ensures.area_after c.is_order_answer.ensures; cleared = (λ _. ap (λ (l : Left Reply). l.area) c.is_node_convex-answer.ensures.area_after) }
