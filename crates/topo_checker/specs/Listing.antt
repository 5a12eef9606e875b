-- The list as marks on the places of its nodes, and how far the marked places go.
-- Rests on paper's Refusals and tables' Within.
use Rattle.std.specs.Prelude.{ℕ, zero, suc, ◌+◌, ◌≤◌, ◌<◌, ◌≡◌, Bool, not, cond, List, [], Option, Some, None, Result, length, get_or, set, eqb, leb, ltb}
use Rattle.lists.specs.Lists.{upto, one, keep, member, greatest, least}
use Rattle.paper.specs.Refusals.{passed, refuse, earliest}
use Rattle.refusals.specs.Said.{ruling_of}
use Rattle.refusals.specs.declared.Refusal.{Refusal}
use Rattle.tables.specs.declared.Layout.{Layout}
use Rattle.tables.specs.Within.{Within}
use Rattle.topo_checker.specs.declared.layout.OrderRoom.{OrderRoom}

-- a known node's place is marked
pub record NodeTaken (a : List ℕ) (at : Layout) (room : OrderRoom) (v : ℕ) (r : Bool) (m : List ℕ) : Type 0 where
  pub known : r ≡ ltb v at.sizes.nodes
  pub left : m ≡ cond (ltb v at.sizes.nodes) (set a (room.listed + get_or a (room.places + v) 0) 1) a

-- no place is marked
pub record Unlisted (a : List ℕ) (at : Layout) (room : OrderRoom) : Type 0 where
  pub blank : (j : ℕ) → j < at.sizes.nodes → get_or a (room.listed + j) 0 ≡ 0

-- the place of each node in the list is marked, and no other; or an entry is unknown, which is 9: "unknown node", at the entry
pub record ListTaken (a : List ℕ) (at : Layout) (room : OrderRoom) (list : List ℕ) (r : Result (Unit {0}) Refusal) (m : List ℕ) : Type 0 where
  pub said : ruling_of r ≡ refuse 9 (earliest (leb at.sizes.nodes) list)
  pub kept : Within room.listed at.sizes.nodes a m
  pub marked : ruling_of r ≡ passed → (j : ℕ) → j < at.sizes.nodes
      → get_or m (room.listed + j) 0 ≡ one (member (get_or a (at.order + j) 0) list)

-- the places marked, rising
unfoldable pub marked_places : List ℕ → ℕ → ℕ → List ℕ
marked_places a marks n = keep (λ j. not (eqb (get_or a (marks + j) 0) 0)) (upto n)

-- the first and the last of some places with one place more, higher than all of them
abbrev pub wider : Option (ℕ × ℕ) → ℕ → Option (ℕ × ℕ)
wider None i = Some (i, i)
wider (Some ends) i = Some (ends.0, i)

-- the first and the last of the marked places below i
unfoldable pub extent_below : List ℕ → ℕ → ℕ → Option (ℕ × ℕ)
extent_below a marks zero = None
extent_below a marks (suc i) =
    let e = extent_below a marks i in
    cond (eqb (get_or a (marks + i) 0) 0) e (wider e i)

-- how far a set of places goes
abbrev pub Spans : List ℕ → Option (ℕ × ℕ) → Type 0
Spans places None = places ≡ []
Spans places (Some ends) = (1 ≤ length places) × (least places ≡ ends.0) × (greatest places ≡ ends.1)

-- .. and no place stands past n
abbrev pub Under : ℕ → Option (ℕ × ℕ) → Type 0
Under n None = Unit {0}
Under n (Some ends) = (ends.0 ≤ ends.1) × (ends.1 < n)

-- the first and the last of the places marked
pub record ExtentOf (a : List ℕ) (marks n : ℕ) (e : Option (ℕ × ℕ)) : Type 0 where
  pub spans : Spans (marked_places a marks n) e
  pub under : Under n e
