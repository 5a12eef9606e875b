-- `topo_checker::near::mark_other` meets its contract: in the range and not listed, or else nothing is written.
-- Rests on Nearby.
use Rattle.topo_checker.proofs.Nearby.{other_below, other_above, other_listed, other_marked}
use Rattle.topo_checker.proofs.near.mark_other.Goals as goal
use Rattle.topo_checker.proofs.near.mark_other.Goals.{else-first-j-via-then-first-j+then-j-last+else-word_at-eq0, else-first-j-via-then-first-j+else-j-last, else-first-j-via-else-first-j}

pub returns-then-word_at-eq0 : goal.returns-then-word_at-eq0
returns-then-word_at-eq0 c = other_marked _ _ _ _ _ _ c.if-first-j.true c.if-j-last.true c.word_at.ensures c.if-word_at-eq0.true

pub returns-else-first-j : goal.returns-else-first-j
returns-else-first-j c = elim c.else-first-j.branch [
  | else-first-j-via-then-first-j+then-j-last+else-word_at-eq0 w ↦ other_listed _ _ _ _ _ _ w.if-first-j.true w.if-j-last.true w.word_at.ensures w.if-word_at-eq0.false
  | else-first-j-via-then-first-j+else-j-last w ↦ other_above _ _ _ _ _ _ w.if-first-j.true w.if-j-last.false
  | else-first-j-via-else-first-j w ↦ other_below _ _ _ _ _ _ w.if-first-j.false
]
