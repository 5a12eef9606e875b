-- What testing given records says, in 01's numbers and places, and what it leaves in the scratch.
-- Rests on Slots, paper's Refusals and refusals' Said.
use Rattle.std.specs.Prelude.{ℕ, ◌+◌, ◌<◌, ◌≡◌, Bool, true, false, not, List, [], ◌∷◌, Result}
use Rattle.lists.specs.Found.{first}
use Rattle.paper.specs.Area.{K}
use Rattle.paper.specs.Records.{records_in}
use Rattle.paper.specs.Refusals.{passed, refuse, bad_record, rule12, rule13, decide}
use Rattle.refusals.specs.Said.{ruling_of}
use Rattle.refusals.specs.declared.Refusal.{Refusal}
use Rattle.tables.specs.declared.Layout.{Layout}
use Rattle.tables.specs.Usable.{Scratched}
use Rattle.tables.specs.Recorded.{Recorded, Slotted}
use Rattle.records.specs.declared.layout.LineSlots.{LineSlots}

-- the first i records are good, and for each line a slot and a mark tell which of them is its
pub record Passed (b a : List ℕ) (slots : LineSlots) (words : List ℕ) (i : ℕ) : Type 0 where
  pub good : (j : ℕ) → j < i → bad_record b a words j ≡ false
  pub slotted : Slotted a words i slots.numbers slots.marks (K b a)

-- what testing record i leaves
pub record RecordTested (b a : List ℕ) (at : Layout) (slots : LineSlots) (words : List ℕ) (i : ℕ) (good : Bool) (m : List ℕ) : Type 0 where
  pub said : good ≡ not (bad_record b a words i)
  pub slotted : good ≡ true → Slotted m words (i + 1) slots.numbers slots.marks (K b a)
  pub kept : Scratched at a m

-- .. and testing all of them by 12
pub record AllTested (b a : List ℕ) (at : Layout) (slots : LineSlots) (words : List ℕ) (count : ℕ) (r : Result (Unit {0}) Refusal) (m : List ℕ) : Type 0 where
  pub said : ruling_of r ≡ refuse 12 (first (bad_record b a words) count)
  pub good : ruling_of r ≡ passed → Passed b m slots words count
  pub kept : Scratched at a m

-- .. and by 12 and 13
pub record Tested (b a : List ℕ) (at : Layout) (slots : LineSlots) (words : List ℕ) (count : ℕ) (r : Result (Unit {0}) Refusal) (m : List ℕ) : Type 0 where
  pub said : ruling_of r ≡ decide (rule12 b a words count ∷ (rule13 b a (records_in words count) ∷ []))
  pub slotted : ruling_of r ≡ passed → Slotted m words count slots.numbers slots.marks (K b a)
  pub recorded : ruling_of r ≡ passed → Recorded b a words count
  pub kept : Scratched at a m
