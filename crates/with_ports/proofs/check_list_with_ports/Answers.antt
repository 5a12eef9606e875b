-- `with_ports::check_list_with_ports` meets its contract: the line check on the area, and the ports on the area after it.
-- Rests on WithPorts.
use Rattle.std.proofs.lemmas.Result.{err_from_is_err_and}
use Rattle.paper.specs.Intervals.{Reply}
use Rattle.tables.proofs.Usable.{still_usable}
use Rattle.with_ports.proofs.WithPorts.{line_passed_up, ports_refused, ports_meet, ports_clear}
use Rattle.with_ports.proofs.check_list_with_ports.Goals as goal

pub returns-in_default : goal.returns-in_default
returns-in_default g c = line_passed_up c.check_list-checked.result c.in_default.not-Ok c.check_list-checked.ensures _ _

pub check_ports-requires : goal.check_ports-requires
check_ports-requires g c = still_usable c.requires c.check_list-checked.ensures.kept

pub returns-in_err-check_ports : goal.returns-in_err-check_ports
returns-in_err-check_ports g c = let p = err_from_is_err_and c.from_residual.result c.from_residual.ensures.1 in
    rw (p.1, p.2) (ports_refused (rw c.in-Ok.is at c.check_list-checked.ensures) _ c.in_err-check_ports.ensures _)

pub returns-then-branch : goal.returns-then-branch
returns-then-branch g c = ports_meet (rw c.in-Ok.is at c.check_list-checked.ensures) (rw c.if-branch.true at c.in_ok-check_ports.ensures) (Reply.No, 0)

pub returns : goal.returns
returns g c = ports_clear (rw c.in-Ok.is at c.check_list-checked.ensures) (rw c.if-branch.false at c.in_ok-check_ports.ensures) (Reply.No, 0)
