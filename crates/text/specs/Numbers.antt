-- What the reader answers of one number: each answer's value, and the number that stands at a place of a line.
-- Rests on paper's Text and on Parts.
use Rattle.std.specs.Prelude.{ℕ, ◌+◌, ◌-◌, ◌&&◌, List, Option, None, Some, take, drop, leb}
use Rattle.lists.specs.Lists.{all}
use Rattle.lists.specs.Found.{Found, absent, at, placed}
use Rattle.paper.specs.Text.{space, is_digit, value_onto, read_number}
use Rattle.text.specs.Parts.{part_end}
use Rattle.text.specs.declared.reader.Cursor.{Cursor}

abbrev pub reading_said : Option ℕ → Found
reading_said (Some n) = at n
reading_said None = absent

-- digits read on from a value
unfoldable pub read_on : ℕ → List ℕ → Found
read_on value text = placed (all is_digit text && leb (value_onto value text) 65535) (value_onto value text)

-- a number with the reader's place after it
abbrev pub with_next : Found → ℕ → Option (ℕ × Cursor)
with_next absent next = None
with_next (at n) next = Some (n, record { at = next })

-- the number from a place of a line up to the next space or the line's end; the reader goes on one byte after that
unfoldable pub number_at : List ℕ → ℕ → Option (ℕ × Cursor)
number_at line start =
    let end = part_end space line start in with_next (read_number (take (end - start) (drop start line))) (end + 1)
