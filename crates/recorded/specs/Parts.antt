-- What the parts of a line are: where a list with its length before it begins and ends, and when there is none.
-- Rests on nothing.
use Rattle.std.specs.Prelude.{ℕ, ◌+◌, ◌≤◌, ◌<◌, ◌≡◌, List, Option, None, Some, length, get_or, take, drop}
use Rattle.recorded.specs.declared.line_parts.Part.{Part}

-- the list whose length stands at a place
unfoldable pub list_at : List ℕ → ℕ → List ℕ
list_at line at = take (get_or line at 0) (drop (at + 1) line)

-- the place behind it
abbrev pub behind : List ℕ → ℕ → ℕ
behind line at = at + 1 + get_or line at 0

-- the list's part of the line, exactly if the line has all of it
unfoldable pub ListAt : Option Part → List ℕ → ℕ → Type 0
ListAt (Some part) line at = (part.from ≡ at + 1) × (part.to ≡ behind line at) × (part.to ≤ length line)
ListAt None line at = length line < behind line at
