-- `recorded::comparing::begins` meets its contract: the words in front are as many as the numbers told, and are compared with them one by one.
-- Rests on Same.
use Rattle.std.proofs.Common.{ap, arith, drop, length, rules, take, ℕ, ◌+◌, ◌-◌, ◌≡◌, ◌∙◌}
use Rattle.std.proofs.lemmas.Bool.Decides.{same_from_decides}
use Rattle.std.proofs.lemmas.Iterator.{same_from_all, YieldsList-from_slice, YieldsList-from_zip}
use borrow.Author.Tests.{tests}
use Rattle.recorded.proofs.Same.{Decides-same, front, front_length, too_few}
use Rattle.recorded.proofs.comparing.begins.Goals as goal

pub returns-then-words-at : goal.returns-then-words-at
returns-then-words-at c = too_few c.args.words.now c.args.at c.args.told.now c.if-words-at.true

pub returns : goal.returns
returns c =
    let words = front c.args.words.now c.args.at c.args.told.now in
    let size : c.args.at + length c.args.told.now - c.args.at ≡ length c.args.told.now = omega arith in
    let lent = c.iter.ensures.rest ∙ ap (λ (n : ℕ). take n (drop c.args.at c.args.words.now)) size in
    same_from_decides c.all.result _
    (
    same_from_all c.all.new.self _ c.all.result words c.args.told.now c.all.ensures.ran
    (YieldsList-from_zip {s = c.zip.result} (YieldsList-from_slice {s = c.zip.result.a} words (cc lent)) (YieldsList-from_slice {s = c.zip.result.b} c.args.told.now cc))
    (front_length c.args.words.now c.args.at c.args.told.now (omega arith))
    (λ x q k. search (rules, tests)) (λ x q k. search (rules, tests))
    )
    (Decides-same words c.args.told.now)
