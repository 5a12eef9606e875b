-- The lowest position of each line's record, in a section with a word for each line; 0 for a line without record, since nothing stands below 0.
-- Rests on paper's Records and tables' Usable (lists as parts of the area).
use Rattle.std.specs.Prelude.{ℕ, zero, suc, ◌+◌, ◌*◌, ◌≤◌, ◌<◌, Bool, cond, List, length, get_or, set, eqb, ltb}
use Rattle.lists.specs.Lists.{any}
use Rattle.paper.specs.Records.{record_at}
use Rattle.tables.specs.declared.Layout.{Layout}
use Rattle.tables.specs.Usable.{Spanned, entries_of}

-- the first i records' lowest position on line x
unfoldable pub low_on : List ℕ → ℕ → ℕ → ℕ
low_on words zero x = 0
low_on words (suc i) x = cond (eqb (record_at words i).line x) (record_at words i).lowest (low_on words i x)

-- the area with the lowest positions of the first i records
unfoldable pub lows_laid : List ℕ → ℕ → List ℕ → ℕ → List ℕ
lows_laid a lows words zero = a
lows_laid a lows words (suc i) = set (lows_laid a lows words i) (lows + (record_at words i).line) (record_at words i).lowest

-- the records stand in the words, and each line of one has a word in the area
pub record Lined (a : List ℕ) (lows : ℕ) (words : List ℕ) (count : ℕ) : Type 0 where
  pub fits : 3 * count ≤ length words
  pub inside : (i : ℕ) → i < count → lows + (record_at words i).line < length a

-- node v stands below the lowest position of one of its lines
unfoldable pub below_lows : List ℕ → Layout → ℕ → ℕ → Bool
below_lows a at lows v = any (λ x. ltb (get_or a (at.positions + v) 0) (get_or a (lows + x) 0)) (entries_of a at.begins at.lines v)

-- its position and its lines stand in the area, and each of them has a word
pub record Asked (a : List ℕ) (at : Layout) (lows v : ℕ) : Type 0 where
  pub position : at.positions + v < length a
  pub span : Spanned a at.begins at.lines v
  pub inside : (i : ℕ) → i < length (entries_of a at.begins at.lines v) → lows + get_or (entries_of a at.begins at.lines v) i 0 < length a
