-- How a program's output begins: with all of it, or with its first line.
-- Rests on paper's Text, Printed and Standing.
use Rattle.std.specs.Prelude.{ℕ, ◌≤◌, ◌≡◌, List, ◌++◌, length}
use Rattle.paper.specs.Lines.{tables}
use Rattle.paper.specs.Text.{lines_in, say_lines, first_output, output}
use Rattle.asking.specs.Standing.{prepared_area, Standing}
use Rattle.asking.specs.Says.{Says}
use Rattle.asking.specs.Printed.{Shown}
use Rattle.asking.specs.declared.beginning.Beginning.{Beginning}
use Rattle.asking.specs.declared.beginning.Beginning.TheVariants.{Whole, First}

-- the first line is put, and the lists are what is left of the output, whatever a program says of them
pub record Opened (b input before after area : List ℕ) (end : ℕ) : Type 0 where
  pub shown : Shown (first_output b (tables b).count) before after end
  pub rest : (says : Says)
      → output says b input ≡ first_output b (tables b).count ++ say_lines says b (prepared_area b) 0 (lines_in input)
  pub short : length input ≤ 60000
  pub standing : Standing b area

pub data Begun (b input before after area : List ℕ) : Beginning → Type 0 where
  whole : {end : ℕ} → ((says : Says) → Shown (output says b input) before after end)
      → Begun b input before after area (Whole end)
  first : {end : ℕ} → Opened b input before after area end → Begun b input before after area (First end)
