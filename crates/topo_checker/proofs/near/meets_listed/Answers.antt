-- `topo_checker::near::meets_listed` meets its contract: each link is known, and what the search finds is the test of any of them.
-- Rests on Found and Neighbours.
use Rattle.std.proofs.Common.{Bool, arith, refl, rules, ℕ, ◌+◌, ◌∙◌}
use Rattle.std.proofs.iter.Serving.{serving}
use Rattle.std.proofs.lemmas.Iterator.{YieldsList-from_range}
use Rattle.std.proofs.lemmas.Iterator.Search.{any_from_yields_List}
use Rattle.topo_checker.specs.Near.{is_listed, place_reached}
use Rattle.topo_checker.proofs.Found.{any_found}
use Rattle.topo_checker.proofs.Neighbours.{reached-low}
use Rattle.topo_checker.proofs.near.meets_listed.Goals as goal

pub any-requires-clause-callable : goal.any-requires-clause-callable
any-requires-clause-callable c = grind (serving, reached-low)

pub returns : goal.returns
returns c =
    let test : ℕ → Bool = λ x. is_listed c.args.area.now c.args.room.listed c.args.first c.args.last (place_reached c.args.b.now c.args.area.now c.args.room (c.args.start + x)) in
    any_from_yields_List test _ _ c.any.result c.any.ensures.ran (YieldsList-from_range 0 c.args.count c.args.count refl (omega arith)) (λ x b q k. search rules)
    ∙ any_found test c.args.count
