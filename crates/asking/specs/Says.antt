-- What a program says of a list, by the map's bytes, the prepared area and the list; and what each of the two says.
-- Rests on paper's Text.
use Rattle.std.specs.Prelude.{ℕ, List}
use Rattle.paper.specs.Text.{ask_says, why_says}
use Rattle.asking.specs.declared.Program.{Program}
use Rattle.asking.specs.declared.Program.TheVariants.{Ask, Why}

abbrev pub Says : Type 0
Says = List ℕ → List ℕ → List ℕ → List ℕ

unfoldable pub says_of : Program → Says
says_of Ask = ask_says
says_of Why = why_says
