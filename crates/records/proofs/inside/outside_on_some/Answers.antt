-- `records::inside::outside_on_some` meets its contract: the search asks line by line whether the position is outside on it.
-- Rests on Any and Slots.
use Rattle.std.proofs.Common.{not, rules, tests, ◌∙◌}
use Rattle.std.proofs.lemmas.Iterator.{YieldsList-from_slice}
use Rattle.std.proofs.lemmas.Iterator.Adapters.{serves_from_places}
use Rattle.std.proofs.lemmas.Iterator.Search.{any_from_yields_List}
use Rattle.records.proofs.Any.{any-is}
use Rattle.records.proofs.Slots.{slot_of}
use Rattle.records.specs.Slots.{inside_slot}
use Rattle.records.proofs.inside.outside_on_some.Goals as goal

pub any-requires-clause-callable : goal.any-requires-clause-callable
any-requires-clause-callable c =
    serves_from_places (YieldsList-from_slice c.args.lines.now cc) (λ x q k. search rules) (λ x k h e. search (rules, slot_of c.requires k h e))

pub returns : goal.returns
returns c = any_from_yields_List (λ x. not (inside_slot c.args.area.now c.args.words.now c.args.slots c.args.pos x)) _ _ _ c.any.ensures.ran (YieldsList-from_slice c.args.lines.now cc) (λ x b q k. (search rules, search (rules, tests)))
    ∙ any-is (λ x. not (inside_slot c.args.area.now c.args.words.now c.args.slots c.args.pos x)) c.args.lines.now
