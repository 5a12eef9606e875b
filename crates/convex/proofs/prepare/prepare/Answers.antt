-- `convex::prepare::prepare` meets its contract: the ordering's refusal passed up, or the lines laid from the order.
-- Rests on Preparing.
use Rattle.std.proofs.lemmas.Result.{err_from_is_err_and}
use Rattle.convex.proofs.Preparing.{refused_up, lines-ready, lines-laid}
use Rattle.convex.proofs.prepare.prepare.Goals as goal

pub returns-in_err-at : goal.returns-in_err-at
returns-in_err-at c = let p = err_from_is_err_and c.from_residual.result c.from_residual.ensures.1 in
    rw (p.1, p.2) (refused_up _ _ c.in_err-at.ensures)

pub lay_lines-requires : goal.lay_lines-requires
lay_lines-requires c = lines-ready _ _ c.in_ok-at.ensures

pub returns : goal.returns
returns c = lines-laid _ _ c.in_ok-at.ensures c.lay_lines.ensures.0 c.lay_lines.ensures.1
