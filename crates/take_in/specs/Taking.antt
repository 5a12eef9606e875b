-- What stands in the area while a list is taken in: its nodes so far from `at` on, and after n words a mark for each node.
-- Rests on lists and tables' Within.
use Rattle.std.specs.Prelude.{ℕ, ◌+◌, ◌*◌, ◌≤◌, ◌<◌, ◌≡◌, Bool, true, not, List, [], ◌∷◌, ◌++◌, length, get_or}
use Rattle.lists.specs.Lists.{member, times}
use Rattle.lists.specs.Bounds.{Below}
use Rattle.lists.proofs.Sections.{part}
use Rattle.tables.specs.Within.{Within}

-- every entry of a list is a node of n
pub record Known (n : ℕ) (list : List ℕ) : Type 0 where
  pub entry : (i : ℕ) → i < length list → get_or list i 0 < n

-- some nodes are taken, each once, and a node's mark tells whether it is one of them
pub record Taking (n at taken : ℕ) (a : List ℕ) : Type 0 where
  pub fits : at + 2 * n ≤ length a
  pub few : taken ≤ n
  pub below : Below n (part a at taken)
  pub once : (x : ℕ) → times x (part a at taken) ≤ 1
  pub mark : (x : ℕ) → x < n → get_or a (at + n + x) 0 ≡ times x (part a at taken)

-- node v is taken after them, or was one of them
pub record Took (n at taken v : ℕ) (a : List ℕ) (r : Bool) (m : List ℕ) : Type 0 where
  pub said : not r ≡ member v (part a at taken)
  pub taking : r ≡ true → Taking n at (taken + 1) m
  pub stands : r ≡ true → part m at (taken + 1) ≡ part a at taken ++ (v ∷ [])
  pub kept : Within at (2 * n) a m
