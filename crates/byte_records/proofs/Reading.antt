-- The first records of a caller's bytes, read into a room, stand there.
-- Rests on Enough, words's Buffers and lists.Sections.
use Prim.Native.Nat.{ℕ, ◌+◌, ◌*◌, ◌/◌, ◌≤◌, ◌<◌, min}
use native.Mathlib.Omega.{arith}
use mathlib.Core.Path.{◌≡◌, sym, ap, ◌∙◌, subst}
use mathlib.Core.List.{List}
use lib.ListN.{length, get_or, take}
use lib.Seq.{sets, length-sets, length-take-le, get_or-take}
use Rattle.lists.proofs.Sections.{get_or-sets_in}
use Rattle.paper.specs.Records.{record_at}
use Rattle.paper.specs.Refusals.{whole_records}
use Rattle.paper.specs.Words.{words_from}
use Rattle.words.proofs.Turns.{length-words_from}
use Rattle.words.proofs.Buffers.{take_words}
use Rattle.byte_records.proofs.Enough.{FirstRecords}

-- records are the same where their words are
same_record : (vs ws : List ℕ) (r : ℕ) → ((j : ℕ) → j < 3 * r → get_or vs j 0 ≡ get_or ws j 0) → (i : ℕ) → i < r → record_at vs i ≡ record_at ws i
unfolding record_at
same_record vs ws r same i h =
    rw (same (3 * i) (omega arith), same (3 * i + 1) (omega arith), same (3 * i + 2) (omega arith))

first_read : (room ws : List ℕ) (r : ℕ) → 3 * r ≤ length ws → 3 * r ≤ length room → FirstRecords ws r (sets room 0 (take (3 * r) ws))
first_read room ws r inside fits =
    record { fits = omega (arith, length-sets room 0 (take (3 * r) ws)); same = same_record (sets room 0 (take (3 * r) ws)) ws r word }
  where
    long : length (take (3 * r) ws) ≡ 3 * r
    long = length-take-le (3 * r) ws inside

    plain : (j : ℕ) → j ≡ 0 + j
    plain j = omega arith

    word : (j : ℕ) → j < 3 * r → get_or (sets room 0 (take (3 * r) ws)) j 0 ≡ get_or ws j 0
    word j h =
        ap (λ (k : ℕ). get_or (sets room 0 (take (3 * r) ws)) k 0) (plain j)
        ∙ get_or-sets_in room 0 (take (3 * r) ws) j 0 (omega (arith, long)) (omega (arith, long))
        ∙ get_or-take (3 * r) ws j 0 h

-- ---- from bytes

-- count records of the bytes stand in vs, or 2,561 of them
pub record ReadRecords (bytes : List ℕ) (count r : ℕ) (vs : List ℕ) : Type 0 where
  pub is : r ≡ min count 2561
  pub within : count ≤ whole_records (words_from bytes)
  pub held : FirstRecords (words_from bytes) (min count 2561) vs

whole-bytes : (bytes : List ℕ) → whole_records (words_from bytes) ≡ length bytes / 2 / 3
unfolding whole_records
whole-bytes bytes = ap (λ (k : ℕ). k / 3) (length-words_from bytes)

module _ (room bytes : List ℕ) (count : ℕ) where
  -- the words of the bytes that are read
  pub read_first : {r : ℕ} → r ≡ min count 2561 → {vs : List ℕ} → vs ≡ sets room 0 (words_from (take (6 * r) bytes))
      → vs ≡ sets room 0 (take (3 * min count 2561) (words_from bytes))
  read_first {r} is e =
      e ∙ ap (λ (k : ℕ). sets room 0 (words_from (take k bytes))) six ∙ ap (sets room 0) (sym (take_words (3 * min count 2561) bytes))
    where
      six : 6 * r ≡ 2 * (3 * min count 2561)
      six = omega arith

  module _ (long : length room ≡ 7683) {r : ℕ} {vs : List ℕ}
      (read : (count ≤ length bytes / 2 / 3) × (r ≡ min count 2561) × (vs ≡ sets room 0 (take (3 * min count 2561) (words_from bytes)))) where
    pub read_all : ReadRecords bytes count r vs
    read_all =
        record {
          is = read.1;
          within = omega (arith, read.0, whole-bytes bytes);
          held = subst (FirstRecords (words_from bytes) (min count 2561)) (sym read.2)
              (first_read room (words_from bytes) (min count 2561) (omega (arith, read.0, length-words_from bytes)) (omega arith));
        }
