-- `recorded::held::is_prepared` meets its contract: what preparing answers, told in numbers, is held against the rest.
-- Rests on Answers.
use Rattle.std.proofs.Common.{ap, drop, ◌∙◌}
use Rattle.lists.specs.Lists.{same}
use Rattle.paper.specs.Exports.{Told}
use Rattle.recorded.specs.Answers.{told_words, count_words}
use Rattle.recorded.proofs.held.is_prepared.Goals as goal

pub returns : goal.returns
unfolding told_words count_words
returns c = c.is_told.ensures ∙ ap (λ (t : Told). same (drop c.args.at c.args.words.now) (told_words t)) c.tell_count-case.ensures
