use Rattle.stepmap.proofs.Answers.{read_well}
use Rattle.tables.proofs.Placed.{few}
use Rattle.prepare_cases.proofs.report.write_area.Goals as goal

pub lay_out-requires : goal.lay_out-requires
lay_out-requires g c = few (read_well _ _ c.in-Ok.ensures)
