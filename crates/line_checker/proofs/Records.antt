-- Records in a room's words: what was written is read back, and records that 12 lets pass are good, also on an area with the same tables.
-- Rests on accepted_theory and accepted_theory.
use Prim.Native.Nat.{ℕ, ◌*◌, ◌≤◌, ◌<◌}
use native.Mathlib.Omega.{arith}
use mathlib.Core.Path.{◌≡◌, refl, sym, ap, ◌∙◌}
use mathlib.Core.Bool.{Bool, true, false, cond}
use mathlib.Core.List.{List}
use lib.ListN.{length, take, length-take}
use lib.Seq.{sets}
use lib.Dec.{ltb}
use Rattle.lists.specs.Found.{Found, absent, at, first}
use Rattle.lists.proofs.First.{first_absent}
use Rattle.lists.proofs.Sections.{sets-part}
use Rattle.paper.specs.Intervals.{Interval, Records, records, apart}
use Rattle.paper.specs.Records.{records_in, words_of_records}
use Rattle.paper.specs.Refusals.{passed, refusal, refuse, bad_record, rule12, whole_records}
use Rattle.refusals.proofs.Rulings.{no_refusal}
use Rattle.paper.specs.Calls.{wrote, found_apart, said}
use Rattle.accepted_theory.proofs.recorded.Reading.{read_back, length_words}
use Rattle.accepted_theory.specs.SameTables.{SameTables}
use Rattle.accepted_theory.proofs.Records.{bad_record-same}
use Rattle.tables.specs.Recorded.{Recorded}

-- records that were written, by how many there are
pub record Wrote (found : Records) (made : ℕ) : Type 0 where
  pub list : List Interval
  pub is : found ≡ records list
  pub many : made ≡ length list

pub wrote_some : (found : Records) (made : ℕ) → wrote made ≡ said found → Wrote found made
unfolding said
wrote_some (records rs) made e = record { list = rs; is = refl; many = cc }
wrote_some apart made e = absurd (different e)
  where
    different : wrote made ≡ found_apart → ⊥
    different e = let z : ◌≡◌ {A = ℕ} 0 1 = cc in omega arith

pub wrote_none : (found : Records) → found_apart ≡ said found → found ≡ apart
unfolding said
wrote_none (records rs) e = absurd (different e)
  where
    different : found_apart ≡ wrote (length rs) → ⊥
    different e = let z : ◌≡◌ {A = ℕ} 0 1 = cc in omega arith
wrote_none apart e = refl

-- words that begin with records hold them
pub read_first : (words : List ℕ) (rs : List Interval) → length rs ≤ whole_records words → take (length (words_of_records rs)) words ≡ words_of_records rs
    → records_in words (length rs) ≡ rs
unfolding whole_records
read_first words rs fits e =
    ap (λ (ws : List ℕ). records_in ws (length rs)) (
    sym (sets-part words 0 (length (words_of_records rs)) 0 (omega (arith, length_words rs))) ∙ ap (sets words 0) e
    )
    ∙ read_back words rs fits

pub begun_long : (words vs : List ℕ) → take (length vs) words ≡ vs → length vs ≤ length words
begun_long words vs e = omega (arith, ap length e, length-take (length vs) words)

pub whole_room : (words : List ℕ) (k : ℕ) → 3 * k ≤ length words → k ≤ whole_records words
unfolding whole_records
whole_room words k h = omega arith

-- 12 passes: every record is good
pub passed-good : (b a words : List ℕ) (n : ℕ) → rule12 b a words n ≡ passed → (i : ℕ) → i < n → bad_record b a words i ≡ false
unfolding rule12 refuse
passed-good b a words n e i h =
    first_absent (bad_record b a words) n (none_found (ltb (whole_records words) n) (first (bad_record b a words) n) e) i h
  where
    none_found : (t : Bool) (f : Found) → cond t (refusal 12 (whole_records words)) (refuse 12 f) ≡ passed → f ≡ absent
    none_found true f e = absurd (no_refusal (sym e))
    none_found false absent e = refl
    none_found false (at j) e = absurd (no_refusal (sym e))

pub good_still : {b a m : List ℕ} → SameTables b a m → (words : List ℕ) (n : ℕ) → 3 * n ≤ length words → rule12 b a words n ≡ passed → Recorded b m words n
good_still same words n fits e =
    record { fits = fits; good = λ i h. sym (bad_record-same same words i) ∙ passed-good _ _ words n e i h }
