use Rattle.std.proofs.Common.{length-take-le, refl, sym}
use Rattle.std.proofs.lemmas.Result.{on_ok_weaker}
use Rattle.paper.specs.Text.{why_says}
use Rattle.asking.specs.Says.{says_of}
use Rattle.asking.proofs.Starts.{begun_whole, begun_first}
use Rattle.asking.proofs.Written.{whole_written, first_written}
use Rattle.asking.proofs.answer.Goals as goal

pub slice_bounds-out-end : goal.slice_bounds-out-end
slice_bounds-out-end g c = (begun_whole c.in-Whole.ensures refl why_says).within

pub slice_bounds-write_all-end : goal.slice_bounds-write_all-end
slice_bounds-write_all-end g c = sym (length-take-le c.in-Whole.end c.begin.new.out (begun_whole c.in-Whole.ensures refl why_says).within)

pub answer_lists-requires-clause-standing : goal.answer_lists-requires-clause-standing
answer_lists-requires-clause-standing g c = (begun_first c.in-First.ensures refl).standing

pub returns-in-Whole : goal.returns-in-Whole
returns-in-Whole g c = on_ok_weaker c.write_all.result (whole_written (says_of c.args.program) _ _ c.in-Whole.ensures) c.write_all.ensures.bytes

pub returns-in_ok-answer_lists-in-First : goal.returns-in_ok-answer_lists-in-First
returns-in_ok-answer_lists-in-First g c =
    first_written (says_of c.args.program) _ _ _ c.in-First.ensures c.in_ok-write_all-in-First.ensures.bytes
    c.in_ok-answer_lists-in-First.ensures.written
