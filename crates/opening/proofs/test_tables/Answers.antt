-- `opening::test_tables` meets its contract: 4 or 5 at a bad link, then 7 as the acceptance test says.
-- Rests on Opening.
use Rattle.std.proofs.Common.{ap, not}
use Rattle.std.proofs.lemmas.Result.{err_from_is_err_and}
use Rattle.opening.proofs.Opening.{bad_link_lem, testable, not_accepted, is-accepted}
use Rattle.opening.proofs.test_tables.Goals as goal

pub returns-in_err-check_links : goal.returns-in_err-check_links
returns-in_err-check_links c = let p = err_from_is_err_and c.from_residual.result c.from_residual.ensures.1 in
    rw (p.1, p.2) (bad_link_lem _ _ _ _ c.in_err-check_links.ensures)

pub accepted-requires : goal.accepted-requires
accepted-requires c = testable c.requires c.in_ok-check_links.ensures

pub returns-then-not-accepted : goal.returns-then-not-accepted
returns-then-not-accepted c = not_accepted _ _ _ c.in_ok-check_links.ensures c.accepted.ensures (ap not c.if-not-accepted.true)

pub returns : goal.returns
returns c = is-accepted _ _ _ c.in_ok-check_links.ensures c.accepted.ensures (ap not c.if-not-accepted.false)
