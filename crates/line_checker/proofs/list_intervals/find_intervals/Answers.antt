-- `line_checker::list_intervals::find_intervals` meets its contract: no records for no nodes; else 9 and 10 from taking the list in, and then the
-- intervals of its nodes.
-- Rests on IntervalsFound and FromList.
use Rattle.std.proofs.Common.{sym, ◌∙◌}
use Rattle.std.proofs.lemmas.Result.{err_from_is_err_and}
use Rattle.tables.proofs.Usable.{still_usable}
use Rattle.line_checker.proofs.FromList.{list-kept, list-stands}
use Rattle.line_checker.proofs.IntervalsFound.{none_found, not_collected, collected}
use Rattle.line_checker.proofs.list_intervals.find_intervals.Goals as goal

pub returns-then-count-eq0 : goal.returns-then-count-eq0
returns-then-count-eq0 g c = none_found c.args.b.now c.args.area.now c.args.at _ _ (sym c.count.ensures ∙ c.if-count-eq0.true)

pub returns-in_err-count : goal.returns-in_err-count
returns-in_err-count g c = let p = err_from_is_err_and c.from_residual.result c.from_residual.ensures.1 in
    rw (p.1, p.2) (not_collected c.requires.usable (λ e. c.if-count-eq0.false (c.count.ensures ∙ e)) c.in_err-count.ensures _)

pub get_intervals-requires : goal.get_intervals-requires
get_intervals-requires g c = record { usable = still_usable c.requires.usable (list-kept c.requires.usable c.in_ok-count.ensures); listed = list-stands c.requires.usable c.in_ok-count.ensures; links_in_bounds = c.requires.links_in_bounds }

pub returns : goal.returns
returns g c = collected c.requires.usable (λ e. c.if-count-eq0.false (c.count.ensures ∙ e)) c.in_ok-count.ensures c.get_intervals.ensures
