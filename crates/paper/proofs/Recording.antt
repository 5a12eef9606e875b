-- A map with questions and their answers, written down to be compared with what the definitions compute: the form of 01's cases
-- (Cases.antt) and of the answers recorded from the Rust (Recorded.antt). Rests on the definitions.
use Prim.Native.Nat.{ℕ, ◌+◌, ◌*◌}
use mathlib.Core.Bool.{Bool, true, false, ◌&&◌}
use mathlib.Core.List.{List, [], ◌∷◌, ◌++◌, map, flat_map}
use lib.ListN.{length, get_or, drop, replicate}
use lib.Seq.{sets}
use lib.Dec.{eqb}
use Rattle.lists.specs.Lists.{upto, all, same}
use Rattle.lists.specs.Ascii.{ascii}
use Rattle.paper.specs.Map.{node_bytes, link_bytes}
use Rattle.paper.specs.Words.{bytes_from}
use Rattle.paper.specs.Area.{W, Section, start, size, order_of, position, lines_of, nodes_of}
use Rattle.paper.specs.Intervals.{Reply, Yes, No}
use Rattle.paper.specs.Refusals.{Answer, refused, answered, whole_records}
use Rattle.paper.specs.Calls.{Written, wrote, found_apart, prepare, is_node_convex, topo_is_node_convex, is_convex, topo_is_convex, get_intervals_from_nodes, is_convex_by_intervals, try_extend_intervals, nodes_in_intervals, lines_at_port, view_of_port}

-- ---- a map's bytes

pub data Node : Type 0 where
  node : (inputs outputs : ℕ) → Node

pub data Link : Type 0 where
  link : (from_node output to_node input : ℕ) → Link

node_words : Node → List ℕ
node_words (node i o) = i ∷ o ∷ []

link_words : Link → List ℕ
link_words (link u o v i) = u ∷ o ∷ v ∷ i ∷ []

unfoldable pub map_bytes : List Node → List Link → List ℕ
unfolding node_words link_words
map_bytes nodes links =
    let n = length nodes in
    let l = length links in
    bytes_from
    (flat_map node_words nodes ++ flat_map link_words links ++ ((node_bytes * n + link_bytes * l) ∷ n ∷ (link_bytes * l) ∷ l ∷ []))
    ++ ascii "PGT1"

-- ---- questions with their answers

-- records as flat words, or that there are none
pub data Given : Type 0 where
  given : List ℕ → Given
  none : Given

pub data Asked : Type 0 where
  line : (list : List ℕ) → Reply → (count : ℕ) → Asked
  order : (list : List ℕ) → Reply → Asked
  intervals : (list : List ℕ) → Given → Asked
  by_records : (records : List ℕ) → Reply → (count : ℕ) → Asked
  extend : (records : List ℕ) (node : ℕ) → Given → Asked
  nodes_in : (records nodes : List ℕ) → Asked
  port : (port first count : ℕ) (lines : List ℕ) → Asked
  line_ports : (list inputs outputs : List ℕ) → Reply → (count : ℕ) → Asked
  order_ports : (list inputs outputs : List ℕ) → Reply → Asked

pub record Recording : Type 0 where
  pub nodes : List Node
  pub links : List Link
  pub lines : ℕ
  pub order : List ℕ
  pub positions : List ℕ
  pub lines_of_nodes : List (List ℕ)
  pub nodes_of_lines : List (List ℕ)
  pub asked : List Asked

-- ---- the comparison

same_reply : Reply → Reply → Bool
same_reply Yes Yes = true
same_reply Yes No = false
same_reply No Yes = false
same_reply No No = true

is_checked : Answer (Reply × ℕ) → Reply → ℕ → Bool
is_checked (refused n p) r c = false
is_checked (answered x) r c = same_reply x.0 r && eqb x.1 c

is_reply : Answer Reply → Reply → Bool
is_reply (refused n p) r = false
is_reply (answered x) r = same_reply x r

is_number : Answer ℕ → ℕ → Bool
is_number (refused n p) k = false
is_number (answered x) k = eqb x k

is_place : Answer (ℕ × ℕ) → ℕ → ℕ → Bool
is_place (refused n p) i c = false
is_place (answered x) i c = eqb x.0 i && eqb x.1 c

-- the buffer holds the words given and then what it held, 9
is_given : Answer Written → List ℕ → List ℕ → Given → Bool
is_given (refused n p) old new g = false
is_given (answered found_apart) old new (given ws) = false
is_given (answered found_apart) old new none = same new old
is_given (answered (wrote k)) old new none = false
is_given (answered (wrote k)) old new (given ws) =
    eqb (3 * k) (length ws) && same new (ws ++ drop (length ws) old)

room : List ℕ → List ℕ
room ws = ws ++ replicate 30 9

-- an area whose scratch holds 7 in every word
used : List ℕ → List ℕ → List ℕ
used b a = sets a (start b Section.scratch) (replicate (size b Section.scratch) 7)

-- one question of the map b: it is asked with the area d, whose scratch was used, and leaves the prepared area a, whose scratch is 0
unfoldable pub agrees : List ℕ → List ℕ → List ℕ → Asked → Bool
unfolding same_reply is_checked is_reply is_number is_place is_given room
agrees b d a (line s r c) = let x = is_node_convex b d s in is_checked x.answer r c && same x.area a
agrees b d a (order s r) = let x = topo_is_node_convex b d s in is_reply x.answer r && same x.area a
agrees b d a (intervals s g) =
    let x = get_intervals_from_nodes b d s (room []) in is_given x.answer (room []) x.buffer g && same x.area a
agrees b d a (by_records ws r c) =
    let x = is_convex_by_intervals b d ws (whole_records ws) in is_checked x.answer r c && same x.area a
agrees b d a (extend ws v g) =
    let x = try_extend_intervals b d (room ws) (whole_records ws) v in is_given x.answer (room ws) x.buffer g && same x.area a
agrees b d a (nodes_in ws vs) =
    let x = nodes_in_intervals b d ws (whole_records ws) (room []) in
    is_number x.answer (length vs) && same x.buffer (vs ++ drop (length vs) (room [])) && same x.area a
agrees b d a (port p i c ls) = let x = lines_at_port b d p in is_place x.answer i c && same (view_of_port b d p) ls && same x.area a
agrees b d a (line_ports s i o r c) = let x = is_convex b d s i o in is_checked x.answer r c && same x.area a
agrees b d a (order_ports s i o r) = let x = topo_is_convex b d s i o in is_reply x.answer r && same x.area a

-- the tables that preparing left are the recorded ones, list by list
laid : List ℕ → List ℕ → Recording → Bool
laid b a m =
    same (order_of b a) m.order && same (map (position b a) (upto (length m.nodes))) m.positions
    && all (λ v. same (lines_of b a v) (get_or m.lines_of_nodes v [])) (upto (length m.nodes))
    && all (λ l. same (nodes_of b a l) (get_or m.nodes_of_lines l [])) (upto m.lines)
    && eqb (length m.lines_of_nodes) (length m.nodes)
    && eqb (length m.nodes_of_lines) m.lines

-- preparing an area of W words and two more, all 9, leaves the recorded tables and the two words; then every question agrees
unfoldable pub holds : Recording → Bool
unfolding agrees is_number laid map_bytes used
holds m =
    let b = map_bytes m.nodes m.links in
    let x = prepare b (replicate (W b + 2) 9) in
    let a = x.area in
    is_number x.answer m.lines && laid b a m && same (drop (W b) a) (9 ∷ 9 ∷ []) && all (agrees b (used b a) a) m.asked
