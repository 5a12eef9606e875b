-- `record_questions::extends_to` meets its contract: the answer and the buffer are the call's.
-- Rests on recorded's Asked.
use Rattle.std.proofs.Common.{ap, refl}
use Rattle.paper.specs.Calls.{LeftWith, Written, call_into, try_extend_intervals}
use Rattle.recorded.specs.Answers.{written_words}
use Rattle.recorded.proofs.Asked.{asked_with}
use Rattle.record_questions.proofs.extends_to.Goals as goal

pub returns : goal.returns
unfolding try_extend_intervals call_into
returns c = record { value = asked_with c.args.words.now written_words {at = c.args.at} {at' = c.args.at} c.try_extend_intervals-answer.ensures c.is_written_answer.ensures refl; cleared = ap (λ (l : LeftWith Written). l.area) c.try_extend_intervals-answer.ensures }
