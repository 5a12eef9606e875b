-- `line_checker::line_check::check_listed` meets its contract: the intervals of the nodes in the scratch, and the walk on their records.
-- Rests on LineCheck.
use Rattle.std.proofs.Common.{arith}
use Rattle.tables.proofs.Usable.{still_usable}
use Rattle.line_checker.proofs.LineCheck.{gap_said, recorded, walk_said, walk_kept}
use Rattle.line_checker.proofs.line_check.check_listed.Goals as goal

pub get_intervals-requires : goal.get_intervals-requires
get_intervals-requires c = record { usable = c.requires.usable; listed = c.requires.listed; links_in_bounds = omega (arith, c.record_room-room.ensures, c.requires.usable.read.few-nodes, c.requires.usable.read.few-links) }

pub returns-in_default : goal.returns-in_default
returns-in_default c = record { says = gap_said c.requires.usable c.requires.listed c.in_default.ensures; kept = c.in_default.ensures.kept }

pub walk-requires : goal.walk-requires
walk-requires c = record { usable = still_usable c.requires.usable c.in-Some.ensures.kept; recorded = recorded c.requires.usable c.requires.listed c.in-Some.ensures }

pub returns : goal.returns
returns c = record { says = walk_said c.requires.usable c.requires.listed c.in-Some.ensures c.walk.ensures; kept = walk_kept c.requires.usable c.requires.listed c.in-Some.ensures c.walk.ensures }
