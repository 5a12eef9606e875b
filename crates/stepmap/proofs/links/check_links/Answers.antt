-- `stepmap::links::check_links` meets its contract: the links passed have no fault and their inputs' marks are set; the first fault decides.
-- Rests on LinkPass.
use Rattle.std.proofs.Common.{refl, arith}
use Rattle.std.proofs.lemmas.Result.{err_from_is_err_and}
use Rattle.stepmap.proofs.Known.{numbered}
use Rattle.stepmap.proofs.LinkPass.{firsts-from, pass_starts, link-ready, pass_on, faulty_link, all_sound}
use Rattle.stepmap.proofs.links.check_links.Goals as goal

pub first_ports-requires-clause-numbered : goal.first_ports-requires-clause-numbered
first_ports-requires-clause-numbered c = numbered c.requires

pub loop-k-init : goal.loop-k-init
loop-k-init c = pass_starts _ c.port_room-marks.ensures

pub check_link-requires : goal.check_link-requires
check_link-requires c = let stand = firsts-from _ _ _ c.first_ports.ensures refl c.requires.few-nodes in
    link-ready c.requires c.loop-k-test.true stand c.loop-k.invariant

pub returns-in_err-check_link : goal.returns-in_err-check_link
returns-in_err-check_link c = let stand = firsts-from _ _ _ c.first_ports.ensures refl c.requires.few-nodes in
    let p = err_from_is_err_and c.from_residual.result c.from_residual.ensures.1 in
    rw (p.1, p.2) (faulty_link c.requires c.loop-k-test.true stand c.loop-k.invariant _ c.in_err-check_link.ensures.result_value)

pub loop-k-preserved : goal.loop-k-preserved
loop-k-preserved c = let stand = firsts-from _ _ _ c.first_ports.ensures refl c.requires.few-nodes in
    pass_on c.requires c.loop-k-test.true stand c.loop-k.invariant c.in_ok-check_link.ensures.result_value c.check_link.ensures.marks_after

pub returns : goal.returns
returns c = all_sound c.requires (omega arith) c.loop-k.invariant
