-- `walk::lows::stands_below` meets its contract: a test for each of the node's lines.
-- Rests on Lowest.
use Rattle.std.proofs.Common.{arith, get_or, ltb, rules, tests, ℕ, ◌+◌}
use Rattle.std.proofs.lemmas.Iterator.{YieldsList-from_slice}
use Rattle.std.proofs.lemmas.Iterator.Adapters.{serves_from_places}
use Rattle.std.proofs.lemmas.Iterator.Search.{any_from_yields_List}
use Rattle.walk.proofs.Lowest.{line-inside, below-is}
use Rattle.walk.proofs.lows.stands_below.Goals as goal

pub any-requires-clause-callable : goal.any-requires-clause-callable
any-requires-clause-callable c = serves_from_places (YieldsList-from_slice c.entries-lines.result.now cc) (λ x q k. search (rules, tests))
    (λ x i h line. grind (arith, line-inside c.args.area.now c.args.at c.args.lows c.args.v c.entries-lines.ensures c.requires i h line))

pub returns : goal.returns
returns c = below-is c.args.area.now c.args.at c.args.lows c.args.v c.entries-lines.ensures c.word_at-pos.ensures
    (any_from_yields_List (λ (x : ℕ). ltb c.word_at-pos.result (get_or c.args.area.now (c.args.lows + x) 0)) _ _ c.any.result c.any.ensures.ran
    (YieldsList-from_slice c.entries-lines.result.now cc) (λ x b q k. search (rules, tests)))
