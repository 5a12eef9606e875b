-- `on_line::index_on` meets its contract: the line and the positions are handed on as parts of the area.
-- Rests on Along and the contracts of entries and find_index.
use Rattle.std.proofs.Common.{List, ap₂, subst₂, sym, ℕ, ◌∙◌}
use Rattle.paper.specs.Lookup.{lookup}
use Rattle.lookup.specs.Line.{Line, positions_on}
use Rattle.on_line.specs.Along.{positions_along}
use Rattle.on_line.proofs.Along.{handed}
use Rattle.on_line.proofs.index_on.Goals as goal

pub find_index-requires : goal.find_index-requires
find_index-requires c = subst₂ Line (sym c.entries-nodes.ensures) (sym (handed c.args.area.now c.args.at.positions c.args.at.sizes.nodes)) c.requires.line

pub returns : goal.returns
unfolding positions_along
returns c = c.find_index.ensures
    ∙ ap₂ (λ (xs ps : List ℕ). lookup (positions_on xs ps) c.args.pos) c.entries-nodes.ensures (handed c.args.area.now c.args.at.positions c.args.at.sizes.nodes)
