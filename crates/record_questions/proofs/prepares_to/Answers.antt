-- `record_questions::prepares_to` meets its contract: the rest behind the map's fields is held against what preparing answers.
-- Rests on recorded's Asked.
use Rattle.std.proofs.Common.{List, ap, arith, get_or, ℕ, ◌*◌, ◌+◌, ◌≡◌}
use Rattle.recorded.specs.Answers.{count_words}
use Rattle.recorded.specs.Questions.{same_prepared}
use Rattle.recorded.proofs.Asked.{no_count, asked, not-true}
use Rattle.record_questions.proofs.prepares_to.Goals as goal

-- where the answer stands
abbrev answer_at : List ℕ → ℕ
answer_at line = 3 + 2 * get_or line 1 0 + 4 * get_or line 2 0

pub returns-then-words-lt3 : goal.returns-then-words-lt3
unfolding same_prepared
returns-then-words-lt3 c = record { value = no_count c.args.words.now (answer_at c.args.words.now) _ (omega arith); cleared = not-true }

pub overflow_mul-at : goal.overflow_mul-at
overflow_mul-at c = omega (arith, c.from.ensures, c.type_inv.words 1)

pub overflow_add-at : goal.overflow_add-at
overflow_add-at c = omega (arith, c.from.ensures, c.type_inv.words 1)

pub overflow_mul-at-2 : goal.overflow_mul-at-2
overflow_mul-at-2 c = omega (arith, c.from-2.ensures, c.type_inv.words 2)

pub overflow_add-at-2 : goal.overflow_add-at-2
overflow_add-at-2 c = omega (arith, c.from-2.ensures, c.type_inv.words 2, c.from.ensures, c.shared_slice_known-3-1.given 1)

pub returns-then-at-words : goal.returns-then-at-words
unfolding same_prepared
returns-then-at-words c = record { value = no_count c.args.words.now (answer_at c.args.words.now) _ (omega (arith, c.from.ensures, c.from-2.ensures)); cleared = not-true }

pub returns : goal.returns
unfolding same_prepared
returns c = let place : 3 + 2 * c.from.result + 4 * c.from-2.result ≡ answer_at c.args.words.now = omega (arith, c.from.ensures, c.from-2.ensures) in record { value = asked c.args.words.now count_words c.prepare-answer.ensures c.is_prepared.ensures place; cleared = (λ _. ap (λ l. l.area) c.prepare-answer.ensures) }
