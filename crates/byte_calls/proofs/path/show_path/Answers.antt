-- `byte_calls::path::show_path` meets its contract: an opening's refusal passed up, or the path is shown on the opened area.
-- Rests on opening's Using and calling's PathCalls, and Buffers.
use Rattle.std.proofs.Common.{rules}
use Rattle.std.proofs.lemmas.Result.{err_from_is_err_and}
use Rattle.opening.proofs.Using.{usable, has-scratch}
use Rattle.calling.proofs.PathCalls.{path_refused, path_answered}
use Rattle.byte_calls.proofs.Buffers.{refused_bytes, answered_bytes}
use Rattle.byte_calls.proofs.path.show_path.Goals as goal

pub returns-in_err-at : goal.returns-in_err-at
returns-in_err-at c = let p = err_from_is_err_and c.from_residual.result c.from_residual.ensures.1 in
    rw (p.1, p.2) (refused_bytes c.args.buffer.now (λ i. search rules) (path_refused c.in_err-at.ensures _ _))

pub show_path_of_list_bytes-shown-requires : goal.show_path_of_list_bytes-shown-requires
show_path_of_list_bytes-shown-requires c = usable c.in_ok-at.ensures

pub clear_scratch-requires : goal.clear_scratch-requires
clear_scratch-requires c = has-scratch c.in_ok-at.ensures c.show_path_of_list_bytes-shown.ensures.kept

pub returns : goal.returns
returns c = answered_bytes c.show_path_of_list_bytes-shown.ensures (path_answered c.in_ok-at.ensures c.clear_scratch.ensures _)
