-- Paths computed over the definition of the call: a table of maps, lists and rooms with what is answered and what the room holds then.
-- Rests on Recording (a map's bytes) and Cases (01's maps A and B).
use Prim.Native.Nat.{ℕ}
use mathlib.Core.Bool.{Bool, true, false, ◌&&◌}
use mathlib.Core.List.{List, [], ◌∷◌}
use lib.ListN.{replicate}
use lib.Dec.{T, eqb}
use Rattle.lists.specs.Lists.{all, same}
use Rattle.paper.specs.Area.{W}
use Rattle.paper.specs.Refusals.{Answer, refused, answered}
use Rattle.paper.specs.Path.{Shown, steps, no_steps}
use Rattle.paper.specs.Calls.{LeftWith, prepare, show_path}
use Rattle.paper.proofs.Everything.{everything}
use Rattle.paper.proofs.Recording.{Node, node, Link, link, map_bytes}
use Rattle.paper.proofs.Cases.{map_a, map_b}

-- a list asked of a map, with a room of so many words, each 9
pub record Asked : Type 0 where
  pub nodes : List Node
  pub links : List Link
  pub list : List ℕ
  pub room : ℕ
  pub said : Answer Shown
  pub left : List ℕ

same_shown : Shown → Shown → Bool
same_shown (steps m) (steps n) = eqb m n
same_shown (steps m) no_steps = false
same_shown no_steps (steps n) = false
same_shown no_steps no_steps = true

same_answer : Answer Shown → Answer Shown → Bool
unfolding same_shown
same_answer (refused n p) (refused m q) = eqb n m && eqb p q
same_answer (refused n p) (answered y) = false
same_answer (answered x) (refused m q) = false
same_answer (answered x) (answered y) = same_shown x y

answers : LeftWith Shown → Asked → Bool
unfolding same_answer
answers left q = same_answer left.answer q.said && same left.buffer q.left

unfoldable pub right : Asked → Bool
unfolding answers
right q = let b = map_bytes q.nodes q.links in answers (show_path b (prepare b (replicate (W b) 0)).area q.list (replicate q.room 9)) q

-- asked of 01's maps
in_a : List ℕ → ℕ → Answer Shown → List ℕ → Asked
in_a list room said left = record { nodes = map_a.nodes; links = map_a.links; list = list; room = room; said = said; left = left }

in_b : List ℕ → ℕ → Answer Shown → List ℕ → Asked
in_b list room said left = record { nodes = map_b.nodes; links = map_b.links; list = list; room = room; said = said; left = left }

unfoldable pub table : List Asked
unfolding in_a in_b
table =
    -- two shortest paths that part at the end: 0 2 3 and 0 1 4
    record {
      nodes = node 0 2 ∷ node 1 1 ∷ node 1 1 ∷ node 1 0 ∷ node 1 0 ∷ [];
      links = link 0 0 1 0 ∷ link 0 1 2 0 ∷ link 1 0 4 0 ∷ link 2 0 3 0 ∷ [];
      list = 4 ∷ 3 ∷ 0 ∷ [];
      room = 4;
      said = answered (steps 3);
      left = 0 ∷ 2 ∷ 3 ∷ 9 ∷ [];
    }
    -- two that part at the start: 0 2 3 and 1 2 3
    ∷ record {
      nodes = node 0 1 ∷ node 0 1 ∷ node 2 1 ∷ node 1 0 ∷ [];
      links = link 1 0 2 1 ∷ link 0 0 2 0 ∷ link 2 0 3 0 ∷ [];
      list = 3 ∷ 1 ∷ 0 ∷ [];
      room = 3;
      said = answered (steps 3);
      left = 0 ∷ 2 ∷ 3 ∷ [];
    }
    -- two that part between: 0 3 4 and 1 2 4
    ∷ record {
      nodes = node 0 1 ∷ node 0 1 ∷ node 1 1 ∷ node 1 1 ∷ node 2 0 ∷ [];
      links = link 0 0 3 0 ∷ link 1 0 2 0 ∷ link 3 0 4 0 ∷ link 2 0 4 1 ∷ [];
      list = 0 ∷ 1 ∷ 4 ∷ [];
      room = 3;
      said = answered (steps 3);
      left = 1 ∷ 2 ∷ 4 ∷ [];
    }
    -- a shorter one stands behind a longer one: 3 4 5, not 0 1 2 3
    ∷ record {
      nodes = node 0 1 ∷ node 1 1 ∷ node 1 1 ∷ node 1 1 ∷ node 1 1 ∷ node 1 0 ∷ [];
      links = link 0 0 1 0 ∷ link 1 0 2 0 ∷ link 2 0 3 0 ∷ link 3 0 4 0 ∷ link 4 0 5 0 ∷ [];
      list = 0 ∷ 3 ∷ 5 ∷ [];
      room = 3;
      said = answered (steps 3);
      left = 3 ∷ 4 ∷ 5 ∷ [];
    }
    -- along a fan-out's second link
    ∷ record {
      nodes = node 0 1 ∷ node 1 0 ∷ node 1 1 ∷ node 1 0 ∷ [];
      links = link 0 0 1 0 ∷ link 0 0 2 0 ∷ link 2 0 3 0 ∷ [];
      list = 0 ∷ 3 ∷ [];
      room = 3;
      said = answered (steps 3);
      left = 0 ∷ 2 ∷ 3 ∷ [];
    }
    -- a list that is not contiguous (P1, P3)
    ∷ in_a (0 ∷ 3 ∷ []) 3 (answered (steps 3)) (0 ∷ 1 ∷ 3 ∷ [])
    ∷ in_a (0 ∷ 1 ∷ 3 ∷ []) 3 (answered (steps 3)) (0 ∷ 2 ∷ 3 ∷ [])
    -- P6, and the room's limit
    ∷ in_b (0 ∷ 3 ∷ []) 3 (answered (steps 3)) (0 ∷ 1 ∷ 3 ∷ [])
    ∷ in_b (0 ∷ 3 ∷ []) 2 (refused 11 3) (9 ∷ 9 ∷ [])
    -- no path (P2, P7): never 11
    ∷ in_a (1 ∷ 2 ∷ []) 0 (answered no_steps) []
    ∷ in_b (0 ∷ 6 ∷ []) 1 (answered no_steps) (9 ∷ [])
    ∷ []

pub paths_shown : T (all right table)
unfolding everything map_a map_b map_bytes right answers same_answer same_shown in_a in_b table
paths_shown = tt
