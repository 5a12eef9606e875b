-- `records::slot_records` meets its contract: the records passed are good and marked, and the first bad one decides.
-- Rests on Slotting.
use Rattle.std.proofs.Common.{ap, arith, not}
use Rattle.tables.proofs.Usable.{still_usable}
use Rattle.tables.proofs.Within.{within_none, within_both}
use Rattle.records.proofs.Slotting.{cleared-kept, none_passed, passed-next, bad_found, all-good}
use Rattle.records.proofs.slot_records.Goals as goal

pub loop-i-init : goal.loop-i-init
loop-i-init c = record {
  kept = within_none;
  usable = still_usable c.requires.usable (cleared-kept c.requires.usable c.requires.slots_fit c.fill.ensures);
  passed = none_passed c.requires.usable c.requires.slots_fit c.fill.ensures c.args.words.now;
}

pub returns-then-not-check_record : goal.returns-then-not-check_record
returns-then-not-check_record c = bad_found c.requires.usable (within_both (cleared-kept c.requires.usable c.requires.slots_fit c.fill.ensures) c.loop-i.invariant.kept) c.loop-i.invariant.passed c.loop-i-test.true
    c.check_record.ensures (ap not c.if-not-check_record.true)

pub loop-i-preserved : goal.loop-i-preserved
loop-i-preserved c = record {
  kept = within_both c.loop-i.invariant.kept c.check_record.ensures.kept;
  usable = still_usable c.loop-i.invariant.usable c.check_record.ensures.kept;
  passed = passed-next c.loop-i.invariant.usable c.loop-i.invariant.passed c.check_record.ensures (ap not c.if-not-check_record.false);
}

pub returns : goal.returns
returns c = all-good c.requires.usable (within_both (cleared-kept c.requires.usable c.requires.slots_fit c.fill.ensures) c.loop-i.invariant.kept) c.loop-i.invariant.passed (omega arith) c.loop-i-test.false
