-- `record_questions::nodes_into` meets its contract: the answer and the buffer are the call's.
-- Rests on recorded's Asked.
use Rattle.std.proofs.Common.{ap, refl, ℕ}
use Rattle.paper.specs.Calls.{LeftWith, call_into, nodes_in_intervals}
use Rattle.recorded.specs.Answers.{count_words}
use Rattle.recorded.proofs.Asked.{asked_with}
use Rattle.record_questions.proofs.nodes_into.Goals as goal

pub returns : goal.returns
unfolding nodes_in_intervals call_into
returns c = record { value = asked_with c.args.words.now count_words {at = c.args.at} {at' = c.args.at} c.nodes_in_intervals-answer.ensures c.is_nodes_answer.ensures refl; cleared = ap (λ (l : LeftWith ℕ). l.area) c.nodes_in_intervals-answer.ensures }
