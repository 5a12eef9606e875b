-- `lookup::position_at` meets its contract: a line's node has a position.
-- Rests on Along.
use Rattle.std.proofs.Common.{ℕ, get_or, sym, ap, ◌∙◌}
use Rattle.lookup.proofs.Along.{along-is}
use Rattle.lookup.proofs.position_at.Goals as goal

pub returns-clause-value : goal.returns-clause-value
returns-clause-value c =
    c.from-2.ensures ∙ ap (λ (v : ℕ). get_or c.args.positions.now v 0) c.from.ensures
    ∙ sym (along-is c.args.nodes.now c.args.positions.now c.args.i c.requires.i_in_bounds)
