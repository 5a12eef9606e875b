-- `byte_path::show_path_of_list_bytes` meets its contract: the path of the list goes from the room into the bytes.
-- Rests on PathFound and line_checker's Out.
use Rattle.std.proofs.Common.{length-take-le, refl, rules, sym}
use Rattle.std.proofs.lemmas.Result.{err_from_is_err_and}
use Rattle.line_checker.proofs.Out.{never_answered}
use Rattle.byte_path.proofs.PathFound.{path_in, never_steps, no_path_lem, path_inside, path-long, path-put}
use Rattle.byte_path.proofs.show_path_of_list_bytes.Goals as goal

pub returns-in_err-steps : goal.returns-in_err-steps
returns-in_err-steps c = let p = err_from_is_err_and c.from_residual.result c.from_residual.ensures.1 in
    rw (p.1, p.2) (no_path_lem (path_in c.requires _ refl c.in_err-steps.ensures) c.args.buffer.now (λ i. search rules) (λ k. never_answered _))

pub returns-in_default : goal.returns-in_default
returns-in_default c = no_path_lem (path_in c.requires _ refl (rw c.in_default.is at c.in_ok-steps.ensures)) c.args.buffer.now (λ i. search rules) never_steps

pub returns-then-buffer-steps : goal.returns-then-buffer-steps
returns-then-buffer-steps c = path-long (path_in c.requires _ refl (rw c.in-Some.is at c.in_ok-steps.ensures)) c.args.buffer.now (λ i. search rules) c.if-buffer-steps.true

pub slice_bounds-room-end : goal.slice_bounds-room-end
slice_bounds-room-end c = path_inside (path_in c.requires _ refl (rw c.in-Some.is at c.in_ok-steps.ensures))

pub slice_bounds-put_words-end : goal.slice_bounds-put_words-end
slice_bounds-put_words-end c = sym (length-take-le c.in-Some.steps _ (path_inside (path_in c.requires _ refl (rw c.in-Some.is at c.in_ok-steps.ensures))))

pub returns : goal.returns
returns c = path-put (path_in c.requires _ refl (rw c.in-Some.is at c.in_ok-steps.ensures)) c.args.buffer.now (λ i. search rules) c.if-buffer-steps.false c.put_words.ensures
