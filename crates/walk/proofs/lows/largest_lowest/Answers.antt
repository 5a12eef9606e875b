-- `walk::lows::largest_lowest` meets its contract: the largest of a table over the records.
-- Rests on Lowest.
use Rattle.std.proofs.Common.{arith, get_or, rules, ◌*◌, ◌+◌, ◌∙◌}
use Rattle.std.proofs.lemmas.Iterator.{YieldsList-from_map, YieldsList-from_range}
use Rattle.std.proofs.lemmas.Iterator.Consumers.{max_from_yields_List}
use Rattle.walk.proofs.Lowest.{largest-is}
use Rattle.walk.proofs.lows.largest_lowest.Goals as goal

pub returns : goal.returns
returns c = c.unwrap_or.ensures ∙ largest-is c.args.records.now c.args.count _
    (max_from_yields_List _ c.max.result c.max.ensures.ran
    (YieldsList-from_map _ (λ i. get_or c.args.records.now (3 * i + 1) 0) (YieldsList-from_range 0 c.args.count c.args.count c.map.ensures.source (omega arith)) c.map.ensures.closure (λ x r q k. search rules)))
