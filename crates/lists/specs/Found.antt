-- Absence as a case of its own, and the one notion of "the first", which every refusal with a place uses.
-- Rests on nothing but the kit's lists.
use Rattle.std.specs.Prelude.{ℕ, zero, suc, Bool, true, false, List, [], ◌∷◌, Option, Some, None, eqb}

pub data Found : Type 0 where
  absent : Found
  at : ℕ → Found

abbrev pub is_absent : Found → Bool
is_absent absent = true
is_absent (at n) = false

-- the number found; callers have shown that there is one
abbrev pub number : Found → ℕ
number absent = 0
number (at n) = n

-- what was found first, if anything was
abbrev pub or_else : Found → Found → Found
or_else absent later = later
or_else (at n) later = at n

-- a place, where a test says so
abbrev pub placed : Bool → ℕ → Found
placed true n = at n
placed false n = absent

-- the first number below n that passes
abbrev pub first : (ℕ → Bool) → ℕ → Found
first f zero = absent
first f (suc n) = or_else (first f n) (placed (f n) n)

-- the head of a list
abbrev pub front : List ℕ → Found
front [] = absent
front (x ∷ xs) = at x

-- that number was found
abbrev pub is_at : ℕ → Found → Bool
is_at n absent = false
is_at n (at m) = eqb m n

-- what a search returns: the number that it found, or none
abbrev pub found_of : Option ℕ → Found
found_of None = absent
found_of (Some n) = at n

-- a found number as a list of none or one
abbrev pub listed : Found → List ℕ
listed absent = []
listed (at n) = n ∷ []
