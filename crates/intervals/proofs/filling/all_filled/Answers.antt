-- `intervals::filling::all_filled` meets its contract: the records are asked one by one, by number.
-- Rests on Testing.
use Rattle.std.proofs.Common.{arith, refl, rules, tests, ◌∙◌}
use Rattle.std.proofs.lemmas.Iterator.{YieldsList-from_range}
use Rattle.std.proofs.lemmas.Iterator.Search.{all_from_yields_List}
use Rattle.intervals.specs.Filling.{fills_record}
use Rattle.intervals.proofs.Testing.{all-is}
use Rattle.intervals.proofs.filling.all_filled.Goals as goal

pub returns : goal.returns
returns c = all_from_yields_List (fills_record c.args.area.now c.args.at c.args.room c.args.records.now) _ _ _ c.all.ensures.ran (YieldsList-from_range 0 c.args.made c.args.made refl (omega arith)) (λ x b q k. (search rules, search (rules, tests)))
    ∙ all-is (fills_record c.args.area.now c.args.at c.args.room c.args.records.now) 0 c.args.made
