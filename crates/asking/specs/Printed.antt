-- A line of output put at the start of the lent bytes, and the area as the calls leave it.
-- Rests on text's Printed and Standing.
use Rattle.std.specs.Prelude.{ℕ, ◌≤◌, List, length}
use Rattle.text.specs.Printed.{Put}
use Rattle.asking.specs.Standing.{Standing}

-- a text that takes the lent bytes up to its end
pub record Shown (text before after : List ℕ) (end : ℕ) : Type 0 where
  pub put : Put before 0 text after end
  pub within : end ≤ length after

pub record Printed (b area text before after : List ℕ) (end : ℕ) : Type 0 where
  pub shown : Shown text before after end
  pub standing : Standing b area
