-- `recorded::held::is_written_answer` meets its contract: what intervals or an extension answer, told in numbers, is held against the rest, and the list behind it.
-- Rests on Answers.
use Rattle.std.proofs.Common.{ap, drop, ◌∙◌}
use Rattle.lists.specs.Lists.{same}
use Rattle.paper.specs.Exports.{Told}
use Rattle.recorded.specs.Answers.{told_words, written_words, with_list}
use Rattle.recorded.proofs.held.is_written_answer.Goals as goal

pub returns : goal.returns
unfolding told_words written_words
returns c = c.is_told_with.ensures
    ∙ ap (λ (t : Told). same (drop c.args.at c.args.words.now) (with_list (told_words t) c.args.buffer.now)) c.tell_written-case.ensures.written
