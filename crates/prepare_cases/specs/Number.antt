-- The number that a word of decimal digits stands for, as the list of cases writes it; it has none above 65535.
-- Rests on nothing.
use Rattle.std.specs.Prelude.{ℕ, zero, suc, ◌+◌, ◌*◌, ◌%◌, List, length, get_or}

-- after i digits
unfoldable pub value_after : List ℕ → ℕ → ℕ
value_after word zero = 0
value_after word (suc i) = (value_after word i * 10 + get_or word i 0 % 16) % 65536

unfoldable pub number_of : List ℕ → ℕ
number_of word = value_after word (length word)
