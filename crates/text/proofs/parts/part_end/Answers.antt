-- `text::parts::part_end` meets its contract: the part has the bytes before the first mark.
-- Rests on Split.
use Rattle.std.proofs.Common.{ap, drop, length, le_refl, rules, sym, List, ℕ, ◌+◌, ◌≡◌, ◌≢◌, ◌∙◌}
use Rattle.std.specs.Option.{unwrap_or}
use Rattle.std.proofs.lemmas.Iterator.{IsFirst-from_position, YieldsList-from_slice}
use Rattle.std.proofs.lemmas.Slice.{between_to_end}
use borrow.Author.Tests.{tests}
use Rattle.text.specs.Parts.{part_end}
use Rattle.text.proofs.Split.{part_at}
use Rattle.text.proofs.parts.part_end.Goals as goal

pub returns : goal.returns
unfolding part_end
returns c =
    let rest = drop c.args.at c.args.text.now in
    let all = between_to_end c.args.text.now c.args.at _ (le_refl (length c.args.text.now)) in
    let first = IsFirst-from_position _ _ c.position.result (λ x. x ≡ c.args.mark) (λ x. x ≢ c.args.mark) c.position.ensures.ran
    (YieldsList-from_slice rest (c.iter.ensures.rest ∙ all)) (λ x q k. search (rules, tests)) (λ x q k. search (rules, tests)) in
    ap (λ (k : ℕ). c.args.at + k)
    (c.unwrap_or.ensures ∙ ap (λ (xs : List ℕ). unwrap_or c.position.result (length xs)) all ∙ sym (part_at c.args.mark rest c.position.result first))
