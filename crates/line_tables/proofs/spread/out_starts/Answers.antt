-- `line_tables::spread::out_starts` meets its contract: after v nodes the first v starts stand.
-- Rests on Widening.
use Rattle.std.proofs.Common.{ap, arith, map, ℕ, ◌+◌, ◌∙◌, ◌≡◌}
use Rattle.std.proofs.lemmas.List.Edits.{sets}
use Rattle.lists.specs.Lists.{upto}
use Rattle.line_tables.proofs.Widening.{span-stands, from-small, from_more}
use Rattle.line_tables.specs.Widths.{links_from}
use Rattle.line_tables.proofs.spread.out_starts.Goals as goal

pub links_start-requires : goal.links_start-requires
links_start-requires c = span-stands c.requires (omega arith) c.loop-v.invariant

pub overflow_cast-area : goal.overflow_cast-area
overflow_cast-area c = record { fits = from-small c.requires (omega arith) c.loop-v.invariant c.links_start.ensures }

pub loop-v-preserved : goal.loop-v-preserved
loop-v-preserved c = from_more c.requires (omega arith) c.loop-v.invariant c.links_start.ensures

pub returns-2 : goal.returns-2
returns-2 c =
    let last : c.loop-v.v ≡ c.args.n = omega arith in
    from_more c.requires (omega arith) c.loop-v.invariant c.links_start.ensures
    ∙ ap (λ (v : ℕ). sets c.args.area.now c.args.into (map (links_from c.args.area.now c.args.links) (upto (v + 1)))) last
