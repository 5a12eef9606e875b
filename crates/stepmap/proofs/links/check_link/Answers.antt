-- `stepmap::links::check_link` meets its contract: the mark at the link's input says whether an earlier link ends there.
-- Rests on Marking.
use Rattle.std.proofs.Common.{arith, sym, ◌∙◌}
use Rattle.stepmap.proofs.Marking.{mark-below, mark_set, mark-clear, answer_4, answer_5, answer-none}
use Rattle.stepmap.proofs.links.check_link.Goals as goal

pub returns-then-is_missing : goal.returns-then-is_missing
returns-then-is_missing c = let all = answer_4 _ _ _ (sym c.is_missing.ensures ∙ c.if-is_missing.true) in record { result_value = all.0; marks_after = all.1 }

pub target_port-target-requires : goal.target_port-target-requires
target_port-target-requires c = record { has_link = c.requires.link; firsts = c.requires.firsts_stand; k_value = sym c.is_missing.ensures ∙ c.if-is_missing.false }

pub offset_bounds-marks-target : goal.offset_bounds-marks-target
offset_bounds-marks-target c = let here = sym c.is_missing.ensures ∙ c.if-is_missing.false in
    omega (arith, mark-below c.requires here c.target_port-target.ensures)

pub bounds-marks-target : goal.bounds-marks-target
bounds-marks-target c = let here = sym c.is_missing.ensures ∙ c.if-is_missing.false in
    mark-below c.requires here c.target_port-target.ensures

pub returns-then-marks-target-eq1 : goal.returns-then-marks-target-eq1
returns-then-marks-target-eq1 c = let all = let here = sym c.is_missing.ensures ∙ c.if-is_missing.false in
    answer_5 _ _ _ here (mark_set c.requires here c.target_port-target.ensures c.if-marks-target-eq1.true) in record { result_value = all.0; marks_after = all.1 }

pub offset_bounds-marks-target-2 : goal.offset_bounds-marks-target-2
offset_bounds-marks-target-2 c = let here = sym c.is_missing.ensures ∙ c.if-is_missing.false in
    omega (arith, mark-below c.requires here c.target_port-target.ensures)

pub bounds-marks-target-2 : goal.bounds-marks-target-2
bounds-marks-target-2 c = let here = sym c.is_missing.ensures ∙ c.if-is_missing.false in
    mark-below c.requires here c.target_port-target.ensures

pub returns : goal.returns
returns c = let all = let here = sym c.is_missing.ensures ∙ c.if-is_missing.false in
    answer-none _ _ _ c.target_port-target.ensures here (mark-clear c.requires here c.target_port-target.ensures c.if-marks-target-eq1.false) in record { result_value = all.0; marks_after = all.1 }
