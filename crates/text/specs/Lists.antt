-- What the reader answers of a line, and the words that it leaves: paper's list in the first of them.
-- Rests on paper's Text and on Parts.
use Rattle.std.specs.Prelude.{ℕ, ◌≤◌, ◌≡◌, List, [], ◌∷◌, Option, None, Some, map, length, take}
use Rattle.std.proofs.lemmas.List.Edits.{sets}
use Rattle.lists.specs.Found.{Found, absent, at}
use Rattle.paper.specs.Text.{space, split, Read, list, bad, read_number, read_list}
use Rattle.text.specs.Parts.{parts_from}

abbrev pub read_said : Option ℕ → List ℕ → Read
read_said (Some count) words = list (take count words)
read_said None words = bad

abbrev pub how_many : Option ℕ → ℕ
how_many (Some count) = count
how_many None = 0

-- the numbers in front of the first part that is none
unfoldable pub leading : List Found → List ℕ
leading [] = []
leading (absent ∷ fs) = []
leading (at n ∷ fs) = n ∷ leading fs

-- .. of a line: those that are read before the reader stops
unfoldable pub numbers_read : List ℕ → List ℕ
numbers_read [] = []
numbers_read (x ∷ xs) = leading (map read_number (split space (x ∷ xs)))

-- an answer for a line, with the words that it found and left
pub record ReadInto (line before after : List ℕ) (answer : Option ℕ) : Type 0 where
  pub said : read_said answer after ≡ read_list line
  pub within : how_many answer ≤ length after
  pub stored : after ≡ sets before 0 (numbers_read line)

-- what each part of a line is, from a place on
unfoldable pub found_from : List ℕ → ℕ → List Found
found_from line start = map read_number (parts_from space line start)
