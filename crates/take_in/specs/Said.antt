-- What taking in a list says, in 01's numbers and values, and what it leaves in the area.
-- Rests on paper's Refusals, refusals' Said and tables' Within.
use Rattle.std.specs.Prelude.{ℕ, ◌*◌, ◌≡◌, Bool, List, [], ◌∷◌, Option, Result, leb, length, get_or, take}
use Rattle.lists.specs.Lists.{member}
use Rattle.lists.specs.Found.{Found, absent, first, found_of}
use Rattle.lists.proofs.Sections.{part}
use Rattle.paper.specs.Refusals.{Ruling, refuse, earliest, rule8, rule10, decide, answer, answered}
use Rattle.refusals.specs.Said.{answer_of}
use Rattle.refusals.specs.declared.Refusal.{Refusal}
use Rattle.tables.specs.Within.{Within}

-- 9 of a map of n nodes
unfoldable pub unknown_in : ℕ → List ℕ → Ruling
unknown_in n list = refuse 9 (earliest (leb n) list)

-- "entry equal to an earlier one"
abbrev pub repeats : List ℕ → ℕ → Bool
repeats list i = member (get_or list i 0) (take i list)

-- the first such entry
unfoldable pub repeat_in : List ℕ → Found
repeat_in list = first (repeats list) (length list)

-- "Checked in this order"
unfoldable pub list_ruled : ℕ → List ℕ → Ruling
list_ruled n list = decide (rule8 (length list) ∷ unknown_in n list ∷ rule10 list ∷ [])

-- what taking in each entry leaves
pub record EachTaken (n : ℕ) (list a : List ℕ) (at : ℕ) (r : Option ℕ) (m : List ℕ) : Type 0 where
  pub said : found_of r ≡ repeat_in list
  pub stands : found_of r ≡ absent → part m at (length list) ≡ list
  pub kept : Within at (2 * n) a m

-- what taking in a list leaves: a list that passes stands in the area
pub record TakenIn (n : ℕ) (list a : List ℕ) (at : ℕ) (r : Result ℕ Refusal) (m : List ℕ) : Type 0 where
  pub said : answer_of r ≡ answer (list_ruled n list) (length list)
  pub stands : answer_of r ≡ answered (length list) → part m at (length list) ≡ list
  pub kept : Within at (2 * n) a m
