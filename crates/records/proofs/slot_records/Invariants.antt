use Rattle.tables.specs.Usable.{Usable, Scratched}
use Rattle.records.specs.Tested.{Passed}
use Rattle.records.proofs.slot_records.Given as goal

abbrev pub invariant-loop-i : goal.invariant-loop-i
invariant-loop-i l = record {
  kept : Scratched l.at l.initial.area l.area;
  usable : Usable l.b l.area l.at;
  passed : Passed l.b l.area l.slots l.words l.i;
}
