-- The test of given records put together: a count beyond the buffer, 12 at a bad record, then what 13 says.
-- Rests on Meaning, Slotting and accepted_theory (the words in use alone decide).
use Prim.Native.Nat.{ℕ, ◌*◌, ◌/◌, ◌≤◌, ◌<◌}
use native.Mathlib.Omega.{arith}
use borrow.Author.Tests.{lt-ltb, le-ltb}
use mathlib.Core.Path.{◌≡◌, refl, sym, ap, ◌∙◌, subst}
use mathlib.Core.Bool.{Bool, cond}
use mathlib.Core.List.{List, [], ◌∷◌}
use lib.ListN.{length}
use Rattle.lists.specs.Found.{first}
use Rattle.paper.specs.Area.{K}
use Rattle.paper.specs.Records.{records_in}
use Rattle.paper.specs.Refusals.{Ruling, passed, refusal, refuse, bad_record, whole_records, rule12, rule13, decide}
use Rattle.accepted_theory.specs.SameTables.{SameTables}
use Rattle.accepted_theory.proofs.Records.{bad_record-same, rule13-same}
use Rattle.accepted_theory.proofs.Refusals.{not_passed}
use Rattle.refusals.specs.declared.Refusal.{Refusal}
use Rattle.refusals.specs.declared.Refusal.TheVariants.{BadRecord}
use Rattle.refusals.specs.Said.{ruling_of}
use Rattle.tables.specs.declared.Layout.{Layout}
use Rattle.tables.specs.Usable.{Usable}
use Rattle.tables.specs.Recorded.{Recorded, Slotted}
use Rattle.tables.proofs.Within.{within_none}
use Rattle.tables.proofs.Usable.{tables_still, still_usable}
use Rattle.records.specs.declared.layout.LineSlots.{LineSlots}
use Rattle.records.specs.Slots.{SlotsFit, NodeAt, straddles_here}
use Rattle.std.specs.Prelude.{Result, Ok, Err}
use Rattle.records.specs.Tested.{Passed, AllTested, Tested}
use Rattle.records.proofs.Meaning.{node_at, rule13-is}

-- the first of two rulings
refused_first : {i v : ℕ} {u : Ruling} → refusal i v ≡ u → (w : Ruling) → refusal i v ≡ decide (u ∷ (w ∷ []))
unfolding decide
refused_first e w = ap (λ (u : Ruling). decide (u ∷ (w ∷ []))) e

passed_first : {u : Ruling} → passed ≡ u → (w : Ruling) → w ≡ decide (u ∷ (w ∷ []))
unfolding decide
passed_first e w = alone w ∙ ap (λ (u : Ruling). decide (u ∷ (w ∷ []))) e
  where
    alone : (w : Ruling) → w ≡ decide (w ∷ [])
    alone passed = refl
    alone (refusal n v) = refl

-- "A record count beyond the buffer gives 12 with the number of whole records as place, before any record is read"
pub beyond : (b a : List ℕ) (at : Layout) (slots : LineSlots) (words : List ℕ) {count : ℕ} → length words / 3 < count → Tested b a at slots words count (Err (BadRecord (length words / 3))) a
unfolding rule12 whole_records
beyond b a at slots words {count} h =
    record {
      said = refused_first (ap (λ (t : Bool). cond t (refusal 12 (length words / 3)) (refuse 12 (first (bad_record b a words) count))) (sym (lt-ltb (length words / 3) count h))) (rule13 b a (records_in words count));
      slotted = λ e. absurd (not_passed e);
      recorded = λ e. absurd (not_passed e);
      kept = within_none;
    }

pub within-buffer : (words : List ℕ) {count : ℕ} → count ≤ length words / 3 → 3 * count ≤ length words
within-buffer words h = omega arith

module _ {b a : List ℕ} {at : Layout} {slots : LineSlots} (usable : Usable b a at) {words : List ℕ} {count : ℕ} (fits : count ≤ length words / 3) {m : List ℕ} where
  by_12 : {found : Result (Unit {0}) Refusal} → AllTested b a at slots words count found m → ruling_of found ≡ rule12 b a words count
  unfolding rule12 whole_records
  by_12 tested =
      tested.said
      ∙ ap (λ (t : Bool). cond t (refusal 12 (length words / 3)) (refuse 12 (first (bad_record b a words) count))) (sym (le-ltb (length words / 3) count fits))

  pub bad_record_lem : {x : Refusal} → AllTested b a at slots words count (Err x) m → Tested b a at slots words count (Err x) m
  bad_record_lem tested =
      record {
        said = refused_first (by_12 tested) (rule13 b a (records_in words count));
        slotted = λ f. absurd (not_passed f);
        recorded = λ f. absurd (not_passed f);
        kept = tested.kept;
      }

  module _ (tested : AllTested b a at slots words count (Ok tt) m) where
    before : Passed b m slots words count
    before = tested.good refl

    same : SameTables b a m
    same = tables_still usable tested.kept

    recorded-there : Recorded b m words count
    recorded-there = record { fits = within-buffer words fits; good = before.good }

    pub nodes-there : SlotsFit at slots → (v : ℕ) → v < at.sizes.nodes → NodeAt m words at slots v
    nodes-there fit v known = node_at (still_usable usable tested.kept) recorded-there before.slotted v known fit

    pub all_tested : {r : Result (Unit {0}) Refusal} → ruling_of r ≡ refuse 13 (first (straddles_here m words at slots) at.sizes.nodes) → Tested b a at slots words count r m
    all_tested said =
        record {
          said =
              said ∙ rule13-is (still_usable usable tested.kept) recorded-there before.slotted ∙ sym (rule13-same same (records_in words count))
              ∙ passed_first (by_12 tested) (rule13 b a (records_in words count));
          slotted = λ e. subst (Slotted m words count slots.numbers slots.marks) (sym same.count) before.slotted;
          recorded = λ e. record { fits = within-buffer words fits; good = λ i h. bad_record-same same words i ∙ before.good i h };
          kept = tested.kept;
        }

-- ---- what stands in the area that the test leaves, for the calls that go on from there

module _ {b a : List ℕ} {at : Layout} {slots : LineSlots} (usable : Usable b a at) {words : List ℕ} {count : ℕ} {r : Result (Unit {0}) Refusal} {m : List ℕ} (tested : Tested b a at slots words count r m) (good : ruling_of r ≡ passed) where
  pub recorded-after : Recorded b m words count
  recorded-after =
      record {
        fits = (tested.recorded good).fits;
        good = λ i h. sym (bad_record-same (tables_still usable tested.kept) words i) ∙ (tested.recorded good).good i h;
      }

  pub slotted-after : Slotted m words count slots.numbers slots.marks (K b m)
  slotted-after =
      subst (Slotted m words count slots.numbers slots.marks) (tables_still usable tested.kept).count (tested.slotted good)
