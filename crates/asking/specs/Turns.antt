-- One turn of the loop over the input's lines: line i is asked, and line i + 1 is next.
-- Rests on paper's Text, Printed and Standing.
use Rattle.std.specs.Prelude.{ℕ, suc, ◌<◌, ◌≡◌, List, [], length, get_or, drop}
use Rattle.paper.specs.Text.{lines_in, read_list, say_line}
use Rattle.asking.specs.Standing.{prepared_area}
use Rattle.asking.specs.Says.{Says}
use Rattle.asking.specs.Printed.{Printed}
use Rattle.asking.specs.declared.turns.Turn.{Turn}

-- the lines that are left from a place on are those from line i on
abbrev pub StartsLine : List ℕ → ℕ → ℕ → Type 0
StartsLine input at i = lines_in (drop at input) ≡ drop i (lines_in input)

module _ (says : Says) where
  pub record Turned (b input : List ℕ) (at i : ℕ) (area before after : List ℕ) (turn : Turn) : Type 0 where
    pub is_line : i < length (lines_in input)
    pub printed : Printed b area (say_line says b (prepared_area b) i (read_list (get_or (lines_in input) i []))) before after turn.printed
    pub next : StartsLine input turn.next (suc i)
    pub onward : at < turn.next
