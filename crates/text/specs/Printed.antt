-- A text put into lent bytes, and the lines that the program prints of numbers and replies.
-- Rests on paper's Text.
use Rattle.std.specs.Prelude.{ℕ, ◌+◌, ◌≡◌, Bool, true, false, List, [], ◌∷◌, ◌++◌, length}
use Rattle.std.proofs.lemmas.List.Edits.{sets}
use Rattle.lists.specs.Ascii.{ascii}
use Rattle.paper.specs.Intervals.{Reply, Yes, No}
use Rattle.paper.specs.Text.{newline, decimal}

-- a text put from a place on, and where it ends
pub record Put (before : List ℕ) (at : ℕ) (text after : List ℕ) (end : ℕ) : Type 0 where
  pub stands : after ≡ sets before at text
  pub ends : end ≡ at + length text

abbrev pub reply_of : Bool → Reply
reply_of true = Yes
reply_of false = No

-- "The first line gives N, L, K."
unfoldable pub first_line : ℕ → ℕ → ℕ → List ℕ
first_line n l k =
    ascii "steps " ++ decimal n ++ ascii " links " ++ decimal l ++ ascii " lines " ++ decimal k ++ (newline ∷ [])
