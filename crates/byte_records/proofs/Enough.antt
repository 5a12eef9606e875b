-- Of more records than lines one is bad, so that a first part of them tells what 12 says of all; and where 12 passes, that part is all.
-- Rests on records' Reasons (good records are no more than lines) and lists.First.
use Prim.Native.Nat.{ℕ, ◌*◌, ◌≤◌, ◌<◌, min}
use native.Mathlib.Decide.{dec_lt}
use native.Mathlib.Omega.{arith}
use borrow.Author.Tests.{le-ltb}
use mathlib.Core.Path.{◌≡◌, refl, sym, ap, ap₂, ◌∙◌}
use mathlib.Core.Bool.{Bool, not, ◌&&◌, ◌||◌, cond}
use mathlib.Core.List.{List, map}
use lib.ListN.{length}
use lib.Dec.{leb, ltb}
use Rattle.lists.specs.Lists.{member}
use Rattle.lists.specs.Found.{Found, absent, at, first}
use Rattle.lists.proofs.First.{first_absent, first_at, first-is, first-same}
use Rattle.lists.proofs.Upto.{table_same}
use Rattle.paper.specs.Area.{K}
use Rattle.paper.specs.Intervals.{Interval}
use Rattle.paper.specs.Records.{record_at, records_in}
use Rattle.paper.specs.Refusals.{passed, refusal, refuse, on_line, used_before, bad_record, whole_records, rule12}
use Rattle.records.proofs.Reasons.{few-records}
use Rattle.line_checker.proofs.Records.{passed-good, whole_room}

-- the first r records of ws stand in vs
pub record FirstRecords (ws : List ℕ) (r : ℕ) (vs : List ℕ) : Type 0 where
  pub fits : 3 * r ≤ length vs
  pub same : (i : ℕ) → i < r → record_at vs i ≡ record_at ws i

module _ (b a : List ℕ) {ws : List ℕ} {r : ℕ} {vs : List ℕ} (held : FirstRecords ws r vs) where
  records-held : (n : ℕ) → n ≤ r → records_in vs n ≡ records_in ws n
  unfolding records_in
  records-held n h = table_same (record_at vs) (record_at ws) n (λ i l. held.same i (omega arith))

  bad_held : (i : ℕ) → i < r → bad_record b a vs i ≡ bad_record b a ws i
  unfolding bad_record used_before
  bad_held i h =
      ap₂
      (λ (x : Interval) (xs : List Interval).
      leb (K b a) x.line || member x.line (map (λ y. y.line) xs)
      || not (on_line b a x.line x.lowest && on_line b a x.line x.highest)
      || ltb x.highest x.lowest)
      (held.same i h)
      (records-held i (omega arith))

-- ---- m records are more than there are lines

module _ (b a : List ℕ) {m : ℕ} (few : K b a < m) where
  first_enough : (ws : List ℕ) (n : ℕ) → m ≤ n → first (bad_record b a ws) m ≡ first (bad_record b a ws) n
  first_enough ws n more = go (first (bad_record b a ws) m) refl
    where
      go : (f : Found) → first (bad_record b a ws) m ≡ f → first (bad_record b a ws) m ≡ first (bad_record b a ws) n
      go absent e = absurd (omega (arith, few-records b a ws (first_absent (bad_record b a ws) m e)))
      go (at i) e =
          let found = first_at (bad_record b a ws) m i e in
          e ∙ sym (first-is (bad_record b a ws) n i (record { known = omega (arith, found.known); passes = found.passes; fail = found.fail }))

  first-cut : (ws : List ℕ) (n : ℕ) → first (bad_record b a ws) (min n m) ≡ first (bad_record b a ws) n
  first-cut ws n = go (dec_lt n m)
    where
      all : n < m → min n m ≡ n
      all h = omega arith

      some : (n < m → ⊥) → min n m ≡ m
      some h = omega arith

      go : Dec (n < m) → first (bad_record b a ws) (min n m) ≡ first (bad_record b a ws) n
      go (yes h) = ap (first (bad_record b a ws)) (all h)
      go (no h) = ap (first (bad_record b a ws)) (some h) ∙ first_enough ws n (omega arith)

  within : (ws : List ℕ) (n : ℕ) → n ≤ whole_records ws → rule12 b a ws n ≡ refuse 12 (first (bad_record b a ws) n)
  unfolding rule12
  within ws n h =
      ap (λ (t : Bool). cond t (refusal 12 (whole_records ws)) (refuse 12 (first (bad_record b a ws) n))) (le-ltb (whole_records ws) n h)

  module _ {ws : List ℕ} (n : ℕ) {vs : List ℕ} (held : FirstRecords ws (min n m) vs) where
    pub rule12_enough : n ≤ whole_records ws → rule12 b a vs (min n m) ≡ rule12 b a ws n
    rule12_enough h =
        within vs (min n m) (whole_room vs (min n m) held.fits)
        ∙ ap (refuse 12) (first-same (bad_record b a vs) (bad_record b a ws) (min n m) (bad_held b a held) ∙ first-cut ws n)
        ∙ sym (within ws n h)

    pub records_enough : rule12 b a vs (min n m) ≡ passed → records_in vs (min n m) ≡ records_in ws n
    records_enough e = records-held b a held (min n m) (omega arith) ∙ ap (records_in ws) all
      where
        all : min n m ≡ n
        all = omega (arith, few-records b a vs (passed-good b a vs (min n m) e))
