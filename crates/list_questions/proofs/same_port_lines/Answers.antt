-- `list_questions::same_port_lines` meets its contract: both calls are asked about the port, the view in the area that the first one left.
-- Rests on recorded's Asked.
use Rattle.std.proofs.Common.{ap, arith, ℕ}
use Rattle.paper.specs.Calls.{Left, call, lines_at_port}
use Rattle.recorded.specs.Questions.{same_port_lines}
use Rattle.recorded.proofs.Asked.{not-true, no_lines, port-lines}
use Rattle.list_questions.proofs.same_port_lines.Goals as goal

pub returns-then-words-lt2 : goal.returns-then-words-lt2
unfolding same_port_lines
returns-then-words-lt2 c = record { value = no_lines c.args.words.now 2 _ _ (omega arith); cleared = not-true }

pub returns : goal.returns
unfolding lines_at_port call
returns c = record {
  value = port-lines c.args.words.now c.args.map.now c.args.area.now c.from-port.ensures c.lines_at_port-answer.ensures c.view_lines_at_port-view.ensures.result_value
      c.is_port_answer.ensures;
  cleared = (λ _. ap (λ (l : Left (ℕ × ℕ)). l.area) c.lines_at_port-answer.ensures);
}
