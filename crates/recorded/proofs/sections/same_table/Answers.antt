-- `recorded::sections::same_table` meets its contract: a map that was read has sizes within the limits, K is a word, and the table's part is compared.
-- Rests on stepmap's Answers, tables' Placed and Used.
use Rattle.std.proofs.Common.{arith}
use Rattle.stepmap.proofs.Answers.{read_well}
use Rattle.tables.proofs.Placed.{few}
use Rattle.recorded.proofs.Used.{not_so, sized, laid, is-section}
use Rattle.recorded.proofs.sections.same_table.Goals as goal

pub returns-in_default : goal.returns-in_default
returns-in_default c = not_so

pub returns-then-is_empty : goal.returns-then-is_empty
returns-then-is_empty c = not_so

pub lay_out-requires : goal.lay_out-requires
lay_out-requires c = few (read_well _ _ c.in-Ok.ensures)

pub section-part-requires : goal.section-part-requires
section-part-requires c = let well = read_well _ _ c.in-Ok.ensures in
    (sized well c.lay_out.ensures, laid well c.lay_out.ensures, omega (arith, c.from.ensures, c.type_inv.area 0))

pub returns : goal.returns
returns c so = let well = read_well _ _ c.in-Ok.ensures in
    let used = rw c.from.ensures at c.section-part.ensures in
    is-section well c.lay_out.ensures _ c.args.words.now c.args.area.now used (c.is_part.ensures so)
