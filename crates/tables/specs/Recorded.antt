-- Records in a caller's words, as refusal 12 lets them pass, and a slot for each line that tells which record is its.
-- Rests on paper's Records and Refusals.
use Rattle.std.specs.Prelude.{ℕ, ◌+◌, ◌*◌, ◌≤◌, ◌<◌, ◌≡◌, ◌⊎◌, false, List, length, get_or}
use Rattle.paper.specs.Records.{record_at}
use Rattle.paper.specs.Refusals.{bad_record}

-- n records stand in the words, and 12 finds none of them bad
pub record Recorded (b a words : List ℕ) (n : ℕ) : Type 0 where
  pub fits : 3 * n ≤ length words
  pub good : (i : ℕ) → i < n → bad_record b a words i ≡ false

-- line x has no record: its mark is 0
pub record Unmarked (a words : List ℕ) (n marks x : ℕ) : Type 0 where
  pub mark : get_or a (marks + x) 0 ≡ 0
  pub none : (i : ℕ) → i < n → (record_at words i).line ≡ x → ⊥

-- line x has a record, and its slot tells which
pub record Marked (a words : List ℕ) (n slots marks x : ℕ) : Type 0 where
  pub mark : get_or a (marks + x) 0 ≡ 1
  pub known : get_or a (slots + x) 0 < n
  pub line : (record_at words (get_or a (slots + x) 0)).line ≡ x

-- for each line below k a slot stands at `slots` and a mark at `marks`
pub record Slotted (a words : List ℕ) (n slots marks k : ℕ) : Type 0 where
  pub each : (x : ℕ) → x < k → Unmarked a words n marks x ⊎ Marked a words n slots marks x
