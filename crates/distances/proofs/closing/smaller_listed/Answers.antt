-- `distances::closing::smaller_listed` meets its contract: the mark and distance 0 tell that a node is listed.
-- Rests on Smallest.
use Rattle.lists.specs.Found.{found_of}
use Rattle.distances.proofs.Smallest.{with_one, with_listed, without-listed}
use Rattle.distances.proofs.closing.smaller_listed.Goals as goal

pub returns-then-at_distance : goal.returns-then-at_distance
returns-then-at_distance c = with_listed _ _ (found_of c.args.found) c.args.v c.at_distance.ensures c.if-at_distance.true (with_one c.args.found c.args.v c.unwrap_or.ensures c.min.ensures)

pub returns : goal.returns
returns c = without-listed _ _ (found_of c.args.found) c.args.v c.at_distance.ensures c.if-at_distance.false
