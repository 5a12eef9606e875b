-- `line_checker::line_check::check_list` meets its contract: 8, 9 and 10 from taking the list in, and then the check of its nodes.
-- Rests on LineCheck and FromList.
use Rattle.std.proofs.Common.{refl, ◌∙◌}
use Rattle.std.proofs.lemmas.Result.{err_from_is_err_and}
use Rattle.tables.proofs.Usable.{still_usable}
use Rattle.take_in.proofs.ListTaken.{list_refused}
use Rattle.line_checker.proofs.FromList.{list-kept, list-stands, list-answered}
use Rattle.line_checker.proofs.LineCheck.{check_before}
use Rattle.line_checker.proofs.line_check.check_list.Goals as goal

pub returns-in_err-count : goal.returns-in_err-count
returns-in_err-count g c = let p = err_from_is_err_and c.from_residual.result c.from_residual.ensures.1 in
    rw (p.1, p.2) (list_refused c.requires c.in_err-count.ensures _)

pub check_listed-requires : goal.check_listed-requires
check_listed-requires g c = record { usable = still_usable c.requires (list-kept c.requires c.in_ok-count.ensures); listed = list-stands c.requires c.in_ok-count.ensures }

pub returns : goal.returns
returns g c = list-answered c.requires c.in_ok-count.ensures refl (c.check_listed.ensures.says ∙ check_before c.requires c.in_ok-count.ensures) c.check_listed.ensures.kept
