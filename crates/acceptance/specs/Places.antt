-- The places of an order's words, kept by word, and what the tests of the order ask and say.
-- Rests on lists and paper's Order.
use Rattle.std.specs.Prelude.{ℕ, ◌≤◌, ◌<◌, ◌≡◌, Bool, not, List, T, eqb, length, get_or}
use Rattle.lists.specs.Lists.{times}
use Rattle.paper.specs.Map.{link_from, link_to}
use Rattle.stepmap.specs.Formed.{HasLink}
use Rattle.stepmap.specs.declared.read.Sizes.{Sizes}

-- "The order holds each node once."
abbrev pub EachOnce : List ℕ → Type 0
EachOnce order = (v : ℕ) → v < length order → times v order ≡ 1

-- The first i words are below the order's length, and for each of them a place is kept at which it stands, the last among the first i.
pub record KeptUpto (order : List ℕ) (i : ℕ) (places : List ℕ) : Type 0 where
  pub below : (j : ℕ) → j < i → get_or order j 0 < length order
  pub late : (j : ℕ) → j < i → j ≤ get_or places (get_or order j 0) 0
  pub early : (j : ℕ) → j < i → get_or places (get_or order j 0) 0 < i
  pub holds : (j : ℕ) → j < i → get_or order (get_or places (get_or order j 0) 0) 0 ≡ get_or order j 0

-- a word that is no node's number
pub record Unknown (order : List ℕ) : Type 0 where
  pub which : ℕ
  pub inside : which < length order
  pub high : length order ≤ get_or order which 0

-- the places are kept, or a word is no node's number
pub record Kept (order : List ℕ) (r : Bool) (places : List ℕ) : Type 0 where
  pub kept : T r → KeptUpto order (length order) places
  pub stray : T (not r) → Unknown order

-- each word of the order has a place in the room
pub record PlacesKnown (order places : List ℕ) : Type 0 where
  pub known : (i : ℕ) → i < length order → get_or order i 0 < length places

-- a word stands at the place that is kept for it
abbrev pub at_place : List ℕ → List ℕ → ℕ → Bool
at_place order places i = eqb (get_or places (get_or order i 0) 0) i

-- links between nodes that have a place in the room
pub record Linking (b : List ℕ) (s : Sizes) (places : List ℕ) : Type 0 where
  pub link : (k : ℕ) → k < s.links → HasLink b s.nodes k
  pub from : (k : ℕ) → k < s.links → link_from b k < length places
  pub to : (k : ℕ) → k < s.links → link_to b k < length places
