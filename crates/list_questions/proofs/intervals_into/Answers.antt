-- `list_questions::intervals_into` meets its contract: the answer and the buffer are the call's.
-- Rests on recorded's Asked.
use Rattle.std.proofs.Common.{ap, refl}
use Rattle.paper.specs.Calls.{LeftWith, Written, call_into, get_intervals_from_nodes}
use Rattle.recorded.specs.Answers.{written_words}
use Rattle.recorded.proofs.Asked.{asked_with}
use Rattle.list_questions.proofs.intervals_into.Goals as goal

pub returns : goal.returns
unfolding get_intervals_from_nodes call_into
returns c = record { value = asked_with c.args.words.now written_words {at = c.args.at} {at' = c.args.at} c.get_intervals_from_nodes-answer.ensures c.is_written_answer.ensures refl; cleared = ap (λ (l : LeftWith Written). l.area) c.get_intervals_from_nodes-answer.ensures }
