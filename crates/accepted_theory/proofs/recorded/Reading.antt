-- Records written into a buffer from its first word on are read back from it.
-- Rests on lists.Laid (parts of known sizes) and lists.Sections.
use Prim.Native.Nat.{ℕ, ◌+◌, ◌*◌, ◌/◌, ◌≤◌, ◌<◌}
use native.Mathlib.Nat.{div-add-mod}
use native.Mathlib.Omega.{arith}
use mathlib.Core.Path.{◌≡◌, refl, sym, ap, ◌∙◌}
use mathlib.Core.List.{List, [], ◌∷◌, map}
use lib.ListN.{length, get_or, take}
use lib.Seq.{sets, length-sets, length-take-le}
use Rattle.lists.specs.Lists.{sum}
use Rattle.lists.proofs.Laid.{length-laid, get_or-laid}
use Rattle.lists.proofs.Sections.{get_or-sets_in}
use Rattle.lists.proofs.Upto.{table_same, table_of}
use Rattle.paper.specs.Intervals.{Interval}
use Rattle.paper.specs.Records.{record_at, records_in, words_of_records}
use Rattle.paper.specs.Refusals.{whole_records}

-- a record's words
abbrev words : Interval → List ℕ
words r = r.line ∷ r.lowest ∷ r.highest ∷ []

threes : (rs : List Interval) → sum (map (λ (r : Interval). 3) rs) ≡ 3 * length rs
threes [] = refl
threes (r ∷ rs) = omega (arith, threes rs)

pub length_words : (rs : List Interval) → length (words_of_records rs) ≡ 3 * length rs
unfolding words_of_records
length_words rs = length-laid words (λ r. 3) (λ r. refl) rs ∙ threes rs

module _ (rs : List Interval) (d : Interval) (i : ℕ) (h : i < length rs) where
  word_of : (j : ℕ) → j < 3 → get_or (words_of_records rs) (3 * i + j) 0 ≡ get_or (words (get_or rs i d)) j 0
  unfolding words_of_records
  word_of j l =
      ap (λ (k : ℕ). get_or (words_of_records rs) (k + j) 0) (sym (threes (take i rs) ∙ ap (λ (n : ℕ). 3 * n) (length-take-le i rs (omega arith))))
      ∙ get_or-laid words (λ r. 3) (λ r. refl) rs i d j h l

  module _ (buffer : List ℕ) (fits : 3 * length rs ≤ length buffer) where
    written : (j : ℕ) → j < 3 → get_or (sets buffer 0 (words_of_records rs)) (3 * i + j) 0 ≡ get_or (words (get_or rs i d)) j 0
    written j l =
        ap (λ (k : ℕ). get_or (sets buffer 0 (words_of_records rs)) k 0) (plain (3 * i + j))
        ∙ get_or-sets_in buffer 0 (words_of_records rs) (3 * i + j) 0 (omega (arith, length_words rs)) (omega (arith, length_words rs))
        ∙ word_of j l
      where
        plain : (k : ℕ) → k ≡ 0 + k
        plain k = omega arith

    record_back : record_at (sets buffer 0 (words_of_records rs)) i ≡ get_or rs i d
    unfolding record_at
    record_back =
        let first = ap (λ (k : ℕ). get_or (sets buffer 0 (words_of_records rs)) k 0) (plain (3 * i)) ∙ written 0 (omega arith) in
        rw (first, written 1 (omega arith), written 2 (omega arith))
      where
        plain : (k : ℕ) → k ≡ k + 0
        plain k = omega arith

-- a buffer with room for the records holds them whole
pub read_back : (buffer : List ℕ) (rs : List Interval) → length rs ≤ whole_records buffer → records_in (sets buffer 0 (words_of_records rs)) (length rs) ≡ rs
unfolding records_in whole_records
read_back buffer rs room =
    let d : Interval = record { line = 0; lowest = 0; highest = 0 } in
    let fits : 3 * length rs ≤ length buffer = omega (arith, div-add-mod (length buffer) 3) in
    table_same (record_at (sets buffer 0 (words_of_records rs))) (λ i. get_or rs i d) (length rs) (λ i h. record_back rs d i h buffer fits) ∙ table_of rs d

pub whole-kept : (buffer vs : List ℕ) → whole_records (sets buffer 0 vs) ≡ whole_records buffer
unfolding whole_records
whole-kept buffer vs = ap (λ (n : ℕ). n / 3) (length-sets buffer 0 vs)
