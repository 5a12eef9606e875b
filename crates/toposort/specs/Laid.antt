-- What ordering leaves in the area: the order and the links by output port; or, after a refusal, what 01 says.
-- Rests on paper's Calls, tables' Placed and Standing.
use Rattle.std.specs.Prelude.{ℕ, ◌+◌, ◌≤◌, ◌<◌, ◌≡◌, List, ◌++◌, Result, Ok, Err, length, get_or}
use Rattle.lists.proofs.Sections.{Apart, part}
use Rattle.paper.specs.Area.{cleared}
use Rattle.paper.specs.Calls.{untouched, unprepared}
use Rattle.paper.specs.Order.{order}
use Rattle.paper.specs.Refusals.{Ruling, passed, rule45, decide, on_refusal}
use Rattle.refusals.specs.Said.{ruling_of}
use Rattle.refusals.specs.declared.Refusal.{Refusal}
use Rattle.stepmap.specs.Formed.{ReadWell}
use Rattle.tables.specs.declared.Layout.{Layout}
use Rattle.tables.specs.Placed.{Placed}
use Rattle.tables.specs.Within.{Within}
use Rattle.neighbours.specs.Linked.{outgoing_size}
use Rattle.neighbours.specs.declared.Listing.{Listing}
use Rattle.toposort.specs.Standing.{Indexed}
use Rattle.toposort.specs.declared.ordering.Ordered.{Ordered}

-- a map that passes 1, 2, 4 and 5, an area that passes 3, and where its sections stand
pub record Ready (b a : List ℕ) (at : Layout) : Type 0 where
  pub read : ReadWell b at.sizes.nodes at.sizes.links at.sizes.ports
  pub placed : Placed b at
  pub links : rule45 b ≡ passed
  pub room : at.end ≤ length a

-- the order and, in the scratch, the links by output port stand; but for the order no word before the scratch was written
pub record OrderLaid (b a : List ℕ) (at : Layout) (links : Listing) (m : List ℕ) : Type 0 where
  pub ready : Ready b m at
  pub index : Indexed b m at links
  pub first : links.firsts ≡ at.scratch
  pub last : links.end ≡ at.scratch + outgoing_size at.sizes
  pub ordered : part m at.order (length (order b)) ≡ order b
  pub same : (i : ℕ) → Apart i at.order at.sizes.nodes → i < at.scratch → get_or m i 0 ≡ get_or a i 0
  pub inside : Within 0 at.end a m

-- the area after an ordering over z: laid out, or as a refusal leaves it
abbrev pub Lies : List ℕ → List ℕ → List ℕ → Result Ordered Refusal → List ℕ → Type 0
Lies b z kept (Ok o) m = OrderLaid b z o.at o.links m
Lies b z kept (Err x) m = m ≡ kept

-- what the rules say, and how the area lies
pub record Left (b z kept : List ℕ) (rule : Ruling) (r : Result Ordered Refusal) (m : List ℕ) : Type 0 where
  pub said : ruling_of r ≡ rule
  pub lies : Lies b z kept r m

-- of any map: "After 1, 2, 3 nothing has changed. After 4, 5, 6 .. the first W words are 0."
abbrev pub OrderLeft : List ℕ → List ℕ → Result Ordered Refusal → List ℕ → Type 0
OrderLeft b a r m =
    Left b (cleared b a) (on_refusal (decide (untouched b a)) a (cleared b a)) (decide (untouched b a ++ unprepared b)) r m
