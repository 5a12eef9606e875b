-- `back_path::showing::show_path_of_list` meets its contract: 8, 9 and 10 from taking the list in, then the path of its nodes.
-- Rests on Listing and take_in's ListTaken.
use Rattle.std.proofs.lemmas.Result.{err_from_is_err_and}
use Rattle.tables.proofs.Usable.{still_usable}
use Rattle.take_in.proofs.Answers.{were_nodes}
use Rattle.take_in.proofs.ListTaken.{taken-kept, list_refused_into, listed}
use Rattle.back_path.proofs.Listing.{list_shows}
use Rattle.back_path.proofs.showing.show_path_of_list.Goals as goal

pub returns-in_err-count : goal.returns-in_err-count
returns-in_err-count g c = let p = err_from_is_err_and c.from_residual.result c.from_residual.ensures.1 in
    rw (p.1, p.2) (list_refused_into c.requires c.in_err-count.ensures _ _ _ _)

pub show_listed-requires : goal.show_listed-requires
show_listed-requires g c = let kept = taken-kept c.args.at c.in_ok-count.ensures.kept in
    record { usable = still_usable c.requires kept; listed = listed c.requires (were_nodes c.in_ok-count.ensures) kept }

pub returns : goal.returns
returns g c = let kept = taken-kept c.args.at c.in_ok-count.ensures.kept in
    list_shows c.requires (were_nodes c.in_ok-count.ensures) kept c.show_listed.ensures
