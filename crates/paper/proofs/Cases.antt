-- 01's two maps and the third: P1 to P12 as one table over the definitions, with a single proof.
-- Rests on Recording, which compares a table's entry with what the definitions compute.
use Prim.Native.Nat.{ℕ}
use mathlib.Core.Bool.{Bool, false, ◌&&◌}
use mathlib.Core.List.{List, [], ◌∷◌}
use lib.ListN.{replicate}
use lib.Dec.{T, eqb}
use Rattle.lists.specs.Lists.{all}
use Rattle.paper.specs.Area.{W}
use Rattle.paper.specs.Intervals.{Yes, No}
use Rattle.paper.specs.Refusals.{Answer, refused, answered}
use Rattle.paper.specs.Calls.{prepare}
use Rattle.paper.proofs.Everything.{everything}
use Rattle.paper.proofs.Recording.{Node, node, Link, link, Recording, line, intervals, extend, port, line_ports, order_ports, given, none, holds, map_bytes}

-- a map that is prepared and asked, or one that preparing refuses
pub data Case : Type 0 where
  asking : Recording → Case
  refusing : List Node → List Link → (number place : ℕ) → Case

is_refused : Answer ℕ → ℕ → ℕ → Bool
is_refused (refused n p) number place = eqb n number && eqb p place
is_refused (answered k) number place = false

unfoldable pub right : Case → Bool
unfolding is_refused
right (asking m) = holds m
right (refusing nodes links number place) =
    let b = map_bytes nodes links in is_refused (prepare b (replicate (W b) 9)).answer number place

unfoldable pub map_a : Recording
map_a =
    record {
      nodes = node 0 2 ∷ node 1 1 ∷ node 1 1 ∷ node 2 0 ∷ [];
      links = link 0 0 1 0 ∷ link 0 1 2 0 ∷ link 1 0 3 0 ∷ link 2 0 3 1 ∷ [];
      lines = 2;
      order = 0 ∷ 1 ∷ 2 ∷ 3 ∷ [];
      positions = 0 ∷ 1 ∷ 1 ∷ 2 ∷ [];
      lines_of_nodes = (0 ∷ 1 ∷ []) ∷ (0 ∷ []) ∷ (1 ∷ []) ∷ (0 ∷ 1 ∷ []) ∷ [];
      nodes_of_lines = (0 ∷ 1 ∷ 3 ∷ []) ∷ (0 ∷ 2 ∷ 3 ∷ []) ∷ [];
      asked =
          -- P1
          line (0 ∷ 3 ∷ []) No 0
          -- P2
          ∷ line (1 ∷ 2 ∷ []) Yes 0
          -- P3
          ∷ line (0 ∷ 1 ∷ 3 ∷ []) No 0
          -- P4
          ∷ port 7 1 1 (1 ∷ [])
          ∷ [];
    }

unfoldable pub map_b : Recording
map_b =
    record {
      nodes = node 0 1 ∷ node 1 2 ∷ node 1 0 ∷ node 1 0 ∷ node 0 1 ∷ node 1 1 ∷ node 1 0 ∷ [];
      links = link 0 0 1 0 ∷ link 1 0 2 0 ∷ link 1 1 3 0 ∷ link 4 0 5 0 ∷ link 5 0 6 0 ∷ [];
      -- P5
      lines = 3;
      order = 0 ∷ 4 ∷ 1 ∷ 5 ∷ 2 ∷ 3 ∷ 6 ∷ [];
      positions = 0 ∷ 1 ∷ 2 ∷ 2 ∷ 0 ∷ 1 ∷ 2 ∷ [];
      lines_of_nodes = (0 ∷ []) ∷ (0 ∷ 2 ∷ []) ∷ (0 ∷ []) ∷ (2 ∷ []) ∷ (1 ∷ []) ∷ (1 ∷ []) ∷ (1 ∷ []) ∷ [];
      nodes_of_lines = (0 ∷ 1 ∷ 2 ∷ []) ∷ (4 ∷ 5 ∷ 6 ∷ []) ∷ (1 ∷ 3 ∷ []) ∷ [];
      asked =
          -- P6
          line (0 ∷ 3 ∷ []) No 1
          -- P7
          ∷ line (0 ∷ 6 ∷ []) Yes 3
          -- P8
          ∷ intervals (0 ∷ []) (given (0 ∷ 0 ∷ 0 ∷ []))
          ∷ extend (0 ∷ 0 ∷ 0 ∷ []) 2 none
          ∷ extend (0 ∷ 0 ∷ 0 ∷ []) 3 (given (0 ∷ 0 ∷ 0 ∷ 2 ∷ 2 ∷ 2 ∷ []))
          ∷ [];
    }

unfoldable pub map_c : Recording
map_c =
    record {
      nodes = node 0 1 ∷ node 1 0 ∷ node 1 0 ∷ [];
      links = link 0 0 1 0 ∷ link 0 0 2 0 ∷ [];
      lines = 2;
      order = 0 ∷ 1 ∷ 2 ∷ [];
      positions = 0 ∷ 1 ∷ 1 ∷ [];
      lines_of_nodes = (0 ∷ 1 ∷ []) ∷ (1 ∷ []) ∷ (0 ∷ []) ∷ [];
      -- P9
      nodes_of_lines = (0 ∷ 2 ∷ []) ∷ (0 ∷ 1 ∷ []) ∷ [];
      asked =
          -- P10
          line_ports (0 ∷ 2 ∷ []) (2 ∷ []) (0 ∷ []) Yes 0
          ∷ line_ports (0 ∷ 2 ∷ []) (1 ∷ []) (0 ∷ []) No 0
          ∷ order_ports (0 ∷ 2 ∷ []) (2 ∷ []) (0 ∷ []) Yes
          ∷ order_ports (0 ∷ 2 ∷ []) (1 ∷ []) (0 ∷ []) No
          ∷ [];
    }

unfoldable pub no_map : Recording
no_map =
    record { nodes = []; links = []; lines = 0; order = []; positions = []; lines_of_nodes = []; nodes_of_lines = []; asked = [] }

unfoldable pub cases : List Case
cases =
    asking map_a ∷ asking map_b ∷ asking map_c
    -- P11: "two nodes linked in a ring: 6 at 0"
    ∷ refusing (node 1 1 ∷ node 1 1 ∷ []) (link 0 0 1 0 ∷ link 1 0 0 0 ∷ []) 6 0
    -- P12: "N = 0: K = 0"
    ∷ asking no_map
    ∷ []

pub P1_to_P12 : T (all right cases)
unfolding everything cases right is_refused map_a map_b map_c no_map holds map_bytes
P1_to_P12 = tt
