-- What extending says, in 01's values, and the records that it leaves in the room.
-- Rests on paper's Calls and Records.
use Rattle.std.specs.Prelude.{ℕ, ◌≡◌, List, Option, Some, None, length, take}
use Rattle.paper.specs.Intervals.{Records, records, apart}
use Rattle.paper.specs.Records.{records_in, extend}
use Rattle.paper.specs.Calls.{Written, wrote, found_apart, said, words_of}

-- how many records, or "not extendable"
abbrev pub extended_said : Option ℕ → Written
extended_said (Some count) = wrote count
extended_said None = found_apart

-- the records that an answer tells of, as they stand in the room
abbrev pub records_left : Option ℕ → List ℕ → Records
records_left (Some count) room = records (records_in room count)
records_left None room = apart

-- what extending `count` records by node v leaves in the room
pub record ExtendsTo (b a words : List ℕ) (count v : ℕ) (room : List ℕ) (r : Option ℕ) (after : List ℕ) : Type 0 where
  pub says : extended_said r ≡ said (extend b a (records_in words count) v)
  pub written :
      take (length (words_of (extend b a (records_in words count) v))) after ≡ words_of (extend b a (records_in words count) v)
  pub long : length after ≡ length room
