-- `on_line::next_on` meets its contract: the line and the positions are handed on as parts of the area.
-- Rests on Along and the contracts of entries and next_after.
use Rattle.std.proofs.Common.{List, ap₂, get_or, ltb, subst₂, sym, true, ℕ, ◌∙◌, ◌≡◌}
use Rattle.lists.specs.Lists.{keep, member}
use Rattle.lists.specs.Found.{front}
use Rattle.lookup.specs.Line.{Line, positions_on}
use Rattle.on_line.specs.Along.{positions_along, next_along}
use Rattle.on_line.proofs.Along.{handed}
use Rattle.on_line.proofs.next_on.Goals as goal

pub next_after-requires : goal.next_after-requires
unfolding positions_along
next_after-requires c = let all = let line : List ℕ → List ℕ → Type 0 = λ xs ps. Line xs ps × (member c.args.pos (positions_on xs ps) ≡ true) in
    subst₂ line (sym c.entries-nodes.ensures) (sym (handed c.args.area.now c.args.at.positions c.args.at.sizes.nodes)) (c.requires.line_at.line, c.requires.x_value) in record { line = all.0; positions_value = all.1 }

pub returns : goal.returns
unfolding next_along
returns c = c.next_after.ensures
    ∙ ap₂ (λ (xs ps : List ℕ). front (keep (λ v. ltb c.args.pos (get_or ps v 0)) xs)) c.entries-nodes.ensures (handed c.args.area.now c.args.at.positions c.args.at.sizes.nodes)
