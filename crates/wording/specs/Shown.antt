-- The texts of answers: a map's refusal, both checks, and the path by what is said of it and the words in which its steps stand.
-- Rests on paper's Path and Text.
use Rattle.std.specs.Prelude.{ℕ, List, [], ◌∷◌, ◌++◌, take}
use Rattle.lists.specs.Ascii.{ascii}
use Rattle.paper.specs.Intervals.{Reply}
use Rattle.paper.specs.Refusals.{Answer, refused, answered}
use Rattle.paper.specs.Path.{Path, path, no_path, Shown, steps, no_steps}
use Rattle.paper.specs.Text.{newline, show_refused, show_line, show_order}

-- "A refused map prints only `refused`, number, place"
unfoldable pub refused_line : Answer ℕ → List ℕ
refused_line (refused n p) = show_refused n p ++ (newline ∷ [])
refused_line (answered k) = []

-- "Each further line gives the line check with its count, then the order check; a refused check shows number and place."
unfoldable pub both_checks : Answer (Reply × ℕ) → Answer Reply → List ℕ
both_checks line order = ascii "line " ++ show_line line ++ ascii " order " ++ show_order order

abbrev pub way_in : Answer Shown → List ℕ → Answer Path
way_in (refused n p) words = refused n p
way_in (answered (steps k)) words = answered (path (take k words))
way_in (answered no_steps) words = answered no_path

-- how many words it takes
abbrev pub steps_shown : Answer Shown → ℕ
steps_shown (refused n p) = 0
steps_shown (answered (steps k)) = k
steps_shown (answered no_steps) = 0
