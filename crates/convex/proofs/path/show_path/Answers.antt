-- `convex::path::show_path` meets its contract: an opening's refusal passed up, or the path is shown on the opened area; and its answer and buffer
-- keep the promise. Rests on opening's Using, calling's PathCalls and Promises.
use Rattle.std.proofs.lemmas.Result.{err_from_is_err_and}
use Rattle.opening.proofs.Using.{usable, has-scratch}
use Rattle.calling.proofs.PathCalls.{path_refused, path_answered}
use Rattle.convex.proofs.Promises.{path-kept}
use Rattle.convex.proofs.path.show_path.Goals as goal

pub returns-in_err-at : goal.returns-in_err-at
returns-in_err-at c = let p = err_from_is_err_and c.from_residual.result c.from_residual.ensures.1 in
    rw (p.1, p.2) (let same =
    path_refused c.in_err-at.ensures _ _
    in
    record { buffer_after = same; path_promise = path-kept same })

pub show_path_of_list-shown-requires : goal.show_path_of_list-shown-requires
show_path_of_list-shown-requires c = usable c.in_ok-at.ensures

pub clear_scratch-requires : goal.clear_scratch-requires
clear_scratch-requires c = has-scratch c.in_ok-at.ensures c.show_path_of_list-shown.ensures.kept

pub returns : goal.returns
returns c = let same =
    path_answered c.in_ok-at.ensures c.clear_scratch.ensures _
    c.show_path_of_list-shown.ensures
    in
    record { buffer_after = same; path_promise = path-kept same }
