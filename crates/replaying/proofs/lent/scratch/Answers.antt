use Rattle.std.proofs.Common.{rules}
use Rattle.stepmap.proofs.Answers.{read_well}
use Rattle.tables.proofs.Placed.{few}
use Rattle.replaying.specs.Inside.{Inside}
use Rattle.replaying.proofs.lent.scratch.Goals as goal

pub lay_out-at-requires : goal.lay_out-at-requires
lay_out-at-requires c = few (read_well _ _ c.in-Ok.ensures)

pub returns-in_default : goal.returns-in_default
unfolding Inside
returns-in_default c = search rules

pub returns-then-at-size : goal.returns-then-at-size
unfolding Inside
returns-then-at-size c = search rules

pub returns : goal.returns
unfolding Inside
returns c = search rules
