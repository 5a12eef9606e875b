-- `port_conflict::marks::mark_lists` meets its contract: 14 for the inputs, then for the outputs.
-- Rests on Both.
use Rattle.std.proofs.Common.{refl}
use Rattle.std.proofs.lemmas.Result.{err_from_is_err_and}
use Rattle.port_conflict.proofs.Both.{unknown_input, then_outputs}
use Rattle.port_conflict.proofs.marks.mark_lists.Goals as goal

pub returns-in_err-mark_ports : goal.returns-in_err-mark_ports
returns-in_err-mark_ports g c = let p = err_from_is_err_and c.from_residual.result c.from_residual.ensures.1 in
    rw (p.1, p.2) (unknown_input c.requires.fits c.in_err-mark_ports.ensures _ refl)

pub returns : goal.returns
returns g c = then_outputs c.requires.fits c.in_ok-mark_ports.ensures _ refl c.mark_ports-2.ensures
