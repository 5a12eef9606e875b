-- What a program keeps of its area from list to list: longer than the one that paper's `output` prepares, and with the same words in use.
-- Rests on paper's Calls and Promise, and on accepted_theory (what the words in use are).
use Rattle.std.specs.Prelude.{ℕ, List, replicate}
use Rattle.paper.specs.Area.{W}
use Rattle.paper.specs.Calls.{prepare}
use Rattle.paper.specs.Promise.{Trusted}
use Rattle.accepted_theory.specs.InUse.{SameInUse}

-- the area of W words in which every list is asked
unfoldable pub prepared_area : List ℕ → List ℕ
prepared_area b = (prepare b (replicate (W b) 0)).area

pub record Standing (b a : List ℕ) : Type 0 where
  pub trusted : Trusted b a
  pub same : SameInUse b a (prepared_area b)
