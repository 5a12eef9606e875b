-- 01, "When a call says no to its input", as one table over the definitions with a single proof: each refusal of each call, two refusals of
-- which the earlier wins, every lent word afterwards. What is expected was worked out from 01 by hand. Rests on Recording for a map's bytes.
use Prim.Native.Nat.{ℕ, ◌+◌, ◌*◌}
use mathlib.Core.Bool.{Bool, ◌&&◌}
use mathlib.Core.List.{List, [], ◌∷◌, ◌++◌, map}
use lib.ListN.{set, take, drop, replicate}
use lib.Dec.{T}
use Rattle.lists.specs.Lists.{all, same}
use Rattle.lists.specs.Ascii.{ascii}
use Rattle.paper.specs.Refusals.{Answer, refused, answered}
use Rattle.paper.specs.Calls.{
  Left,
  LeftWith,
  prepare,
  is_node_convex,
  topo_is_node_convex,
  is_convex,
  topo_is_convex,
  get_intervals_from_nodes,
  is_convex_by_intervals,
  try_extend_intervals,
  nodes_in_intervals,
  show_path,
  lines_at_port,
  view_of_port,
}
use Rattle.paper.specs.Words.{bytes_from}
use Rattle.paper.specs.Exports.{in_count, in_line_reply, in_reply, in_written, in_shown, in_pair}
use Rattle.paper.proofs.Everything.{everything}
use Rattle.paper.proofs.Recording.{Node, node, link, map_bytes}

-- ---- a case: a call, and what it must leave

-- the calls that answer and leave words; records are given as words and how many of them stand there
pub data Call : Type 0 where
  preparing : Call
  line order : (list : List ℕ) → Call
  line_ports order_ports : (list inputs outputs : List ℕ) → Call
  intervals : (list buffer : List ℕ) → Call
  by_records : (words : List ℕ) (n : ℕ) → Call
  extend : (words : List ℕ) (n node : ℕ) → Call
  nodes : (words : List ℕ) (n : ℕ) (buffer : List ℕ) → Call
  path : (list buffer : List ℕ) → Call
  port : ℕ → Call

-- the buffer that is lent for the result
lent_buffer : Call → List ℕ
lent_buffer preparing = []
lent_buffer (line list) = []
lent_buffer (order list) = []
lent_buffer (line_ports list inputs outputs) = []
lent_buffer (order_ports list inputs outputs) = []
lent_buffer (intervals list buffer) = buffer
lent_buffer (by_records words n) = []
lent_buffer (extend words n v) = words
lent_buffer (nodes words n buffer) = buffer
lent_buffer (path list buffer) = buffer
lent_buffer (port p) = []

-- the answer in numbers, as the exports tell it: 1 is an answer or yes, 2 is no, "not contiguous", "not extendable" or "no path", each with its values;
-- 3 is refused, with number and place
pub record Outcome : Type 0 where
  pub answer : List ℕ
  pub area : List ℕ
  pub buffer : List ℕ

module _ {A : Type 0} where
  in_numbers : (A → ℕ × List ℕ) → Answer A → List ℕ
  in_numbers numbers (refused n p) = 3 ∷ n ∷ p ∷ []
  in_numbers numbers (answered x) = (numbers x).0 ∷ (numbers x).1

  plain : (A → ℕ × List ℕ) → Left A → Outcome
  plain numbers x = record { answer = in_numbers numbers x.answer; area = x.area; buffer = [] }

  with_buffer : (A → ℕ × List ℕ) → LeftWith A → Outcome
  with_buffer numbers x = record { answer = in_numbers numbers x.answer; area = x.area; buffer = x.buffer }

-- what the definitions make of a map's bytes, an area's words and a call
outcome : List ℕ → List ℕ → Call → Outcome
outcome b a preparing = plain in_count (prepare b a)
outcome b a (line list) = plain in_line_reply (is_node_convex b a list)
outcome b a (order list) = plain in_reply (topo_is_node_convex b a list)
outcome b a (line_ports list inputs outputs) = plain in_line_reply (is_convex b a list inputs outputs)
outcome b a (order_ports list inputs outputs) = plain in_reply (topo_is_convex b a list inputs outputs)
outcome b a (intervals list buffer) = with_buffer in_written (get_intervals_from_nodes b a list buffer)
outcome b a (by_records words n) = plain in_line_reply (is_convex_by_intervals b a words n)
outcome b a (extend words n v) = with_buffer in_written (try_extend_intervals b a words n v)
outcome b a (nodes words n buffer) = with_buffer in_count (nodes_in_intervals b a words n buffer)
outcome b a (path list buffer) = with_buffer in_shown (show_path b a list buffer)
outcome b a (port p) = plain in_pair (lines_at_port b a p)

-- a map b, an area a and a call: refused with number and place, and the area afterwards ("A refusal never writes result buffers");
-- or answered, and area and buffer afterwards. A view of a port has its lines alone: it "writes nothing" and is "empty on refusal".
pub data Case : Type 0 where
  refuses : (b a : List ℕ) → Call → (number place : ℕ) (area : List ℕ) → Case
  answers : (b a : List ℕ) → Call → (answer area buffer : List ℕ) → Case
  shows : (b a : List ℕ) (port : ℕ) (lines : List ℕ) → Case

gives : Outcome → List ℕ → List ℕ → List ℕ → Bool
gives x answer area buffer = same x.answer answer && same x.area area && same x.buffer buffer

unfoldable pub right : Case → Bool
unfolding lent_buffer in_numbers plain with_buffer outcome gives
right (refuses b a call number place area) = gives (outcome b a call) (3 ∷ number ∷ place ∷ []) area (lent_buffer call)
right (answers b a call answer area buffer) = gives (outcome b a call) answer area buffer
right (shows b a p lines) = same (view_of_port b a p) lines

-- ---- map D: links 0.0→1.0, 1.0→2.0, 1.1→2.1. N = 3, L = 3, P = 6, W = 76. Order 0 1 2, positions 0 1 2, lines 0: 0 1 2 and 1: 1 2.
-- Node 0 has port 0 (an output), node 1 has 1 (an input), 2 and 3 (outputs), node 2 has 4 and 5 (inputs).

steps : List Node
steps = node 0 1 ∷ node 1 2 ∷ node 2 0 ∷ []

D : List ℕ
unfolding steps
D = map_bytes steps (link 0 0 1 0 ∷ link 1 0 2 0 ∷ link 1 1 2 1 ∷ [])

-- its area, with u in the unused words, s in the scratch, and 8 past W: line count, order, positions, node starts; lines of nodes;
-- line starts; nodes of lines; scratch
area : ℕ → ℕ → List ℕ
area u s =
    2 ∷ 0 ∷ 1 ∷ 2 ∷ 0 ∷ 1 ∷ 2 ∷ 0 ∷ 1 ∷ 3 ∷ 5
    ∷ 0 ∷ 0 ∷ 1 ∷ 0 ∷ 1 ∷ u ∷ u ∷ u ∷ u
    ∷ 0 ∷ 3 ∷ 5 ∷ u ∷ u ∷ u ∷ u
    ∷ 0 ∷ 1 ∷ 2 ∷ 1 ∷ 2 ∷ u ∷ u ∷ u ∷ u
    ∷ (replicate 40 s ++ (8 ∷ []))

-- as a host may lend it, and as a call past 3 leaves it
lent : List ℕ
lent = area 7 7

left : List ℕ
left = area 7 0

-- before preparing, and with the first W words 0
unprepared : List ℕ
unprepared = replicate 76 7 ++ (8 ∷ [])

zeros : List ℕ
zeros = replicate 76 0 ++ (8 ∷ [])

-- k words of a buffer as they stood
old : ℕ → List ℕ
old k = replicate k 5

-- ---- maps that are refused

-- the mark is PGT2
unmarked : List ℕ
unmarked = set D 47 50

-- link 2 leaves by output 2, which node 1 does not have
missing : List ℕ
missing = set D 30 2

-- link 2 ends at input 0, where link 1 ends
second : List ℕ
second = set D 34 0

-- link 2 is both
missing_and_second : List ℕ
missing_and_second = set second 30 2

-- links 1.0→1.0, 0.0→2.0, 1.1→2.1: nodes 1 and 2 are never ordered
ring : List ℕ
unfolding steps
ring = map_bytes steps (link 1 0 1 0 ∷ link 0 0 2 0 ∷ link 1 1 2 1 ∷ [])

-- one node, with 256 inputs: 16 bytes, W = 529
wide : List ℕ
wide = map_bytes (node 256 0 ∷ []) []

-- n nodes without ports and l links, their bytes all 0
blank : ℕ → ℕ → List ℕ
blank n l =
    replicate (4 * n + 8 * l) 0 ++ bytes_from ((4 * n + 8 * l) ∷ n ∷ (8 * l) ∷ l ∷ []) ++ ascii "PGT1"

-- the area of one node without ports, with v for its order and s in the scratch: W = 17
alone : ℕ → ℕ → List ℕ
alone v s = 1 ∷ v ∷ 0 ∷ 0 ∷ 1 ∷ 0 ∷ 0 ∷ 1 ∷ 0 ∷ replicate 8 s

-- ---- preparing

prepares : List Case
unfolding D area steps unprepared zeros unmarked missing second missing_and_second ring wide blank
prepares =
    -- "Preparing sets unused words and scratch to 0", "its answer is K"
    answers D unprepared preparing (1 ∷ 2 ∷ []) (area 0 0) []
    -- "W words pass, W−1 is 3."
    ∷ answers D (replicate 76 7) preparing (1 ∷ 2 ∷ []) (take 76 (area 0 0)) []
    ∷ refuses D (replicate 75 7) preparing 3 0 (replicate 75 7)
    ∷ answers (blank 0 0) (replicate 7 7) preparing (1 ∷ 0 ∷ []) (replicate 7 0) []
    ∷ refuses (blank 0 0) (replicate 6 7) preparing 3 0 (replicate 6 7)
    -- 1: mark, each distance, length (a byte more, a byte less, no byte)
    ∷ refuses unmarked unprepared preparing 1 0 unprepared
    ∷ refuses (set D 36 37) unprepared preparing 1 0 unprepared
    ∷ refuses (set D 40 25) unprepared preparing 1 0 unprepared
    ∷ refuses (0 ∷ D) unprepared preparing 1 0 unprepared
    ∷ refuses (drop 1 D) unprepared preparing 1 0 unprepared
    ∷ refuses [] unprepared preparing 1 0 unprepared
    -- 1 before 2
    ∷ refuses (set wide 15 50) unprepared preparing 1 0 unprepared
    -- 2
    ∷ refuses wide (replicate 529 7) preparing 2 0 (replicate 529 7)
    -- 2 before 3: a node's inputs, outputs, ports in all, nodes, links; at the limit 3 is left
    ∷ refuses wide (7 ∷ []) preparing 2 0 (7 ∷ [])
    ∷ refuses (map_bytes (node 0 256 ∷ []) []) [] preparing 2 0 []
    ∷ refuses (map_bytes (node 255 255 ∷ []) []) [] preparing 3 0 []
    ∷ refuses (map_bytes (node 17 0 ∷ replicate 8 (node 255 255)) []) [] preparing 2 0 []
    ∷ refuses (map_bytes (node 16 0 ∷ replicate 8 (node 255 255)) []) [] preparing 3 0 []
    ∷ refuses (blank 513 0) [] preparing 2 0 []
    ∷ refuses (blank 1 2049) [] preparing 2 0 []
    ∷ refuses (blank 1 2048) [] preparing 3 0 []
    -- 3 before 4
    ∷ refuses missing (replicate 75 7) preparing 3 0 (replicate 75 7)
    -- 4: from node, output, to node, input
    ∷ refuses (set D 28 3) unprepared preparing 4 2 zeros
    ∷ refuses missing unprepared preparing 4 2 zeros
    ∷ refuses (set D 32 3) unprepared preparing 4 2 zeros
    ∷ refuses (set D 34 2) unprepared preparing 4 2 zeros
    -- 5
    ∷ refuses second unprepared preparing 5 2 zeros
    -- "For one link 4 comes before 5; the first bad link decides.": 4 and 5 at 2; 5 at 1 and 4 at 2; 4 at 1 and 5 at 2
    ∷ refuses missing_and_second unprepared preparing 4 2 zeros
    ∷ refuses (set missing 24 1) unprepared preparing 5 1 zeros
    ∷ refuses (set second 22 5) unprepared preparing 4 1 zeros
    -- 4 before 6, and 5 before 6: D with a link 1 from 1.0 to 1.0, where link 0 ends
    ∷ refuses (set ring 30 2) unprepared preparing 4 2 zeros
    ∷ refuses (set D 24 1) unprepared preparing 5 1 zeros
    -- 6, at the "lowest node never ordered"
    ∷ refuses ring unprepared preparing 6 1 zeros
    ∷ []

-- ---- how every other call opens

-- inputs that no rule after 7 refuses; where there is a buffer, the answer would be written
good_calls : List Call
unfolding old
good_calls =
    line (1 ∷ []) ∷ order (1 ∷ []) ∷ line_ports (1 ∷ []) [] [] ∷ order_ports (1 ∷ []) [] []
    ∷ intervals (1 ∷ []) (old 7)
    ∷ by_records (0 ∷ 0 ∷ 0 ∷ []) 1
    ∷ extend (0 ∷ 0 ∷ 0 ∷ old 3) 1 1
    ∷ nodes (0 ∷ 0 ∷ 0 ∷ []) 1 (old 2)
    ∷ path (0 ∷ 2 ∷ []) (old 4)
    ∷ port 3
    ∷ []

-- inputs that a rule after 7 refuses: 8; 9; 8 and 14; 9 and 14; 9 and 10; 8; 9 and 12; 12; 9 and 10; 14
bad_calls : List Call
unfolding old
bad_calls =
    line [] ∷ order (3 ∷ []) ∷ line_ports [] (6 ∷ []) [] ∷ order_ports (3 ∷ []) (6 ∷ []) [] ∷ intervals (3 ∷ 3 ∷ []) (old 1)
    ∷ by_records [] 0
    ∷ extend (old 1) 1 3
    ∷ nodes (old 1) 1 (old 1)
    ∷ path (3 ∷ 3 ∷ []) (old 1)
    ∷ port 6
    ∷ []

-- every call is refused thus, and the view of a port that has a line is empty
every_call : List ℕ → List ℕ → ℕ → ℕ → List ℕ → List Case
unfolding good_calls bad_calls
every_call b a number place after =
    shows b a 3 [] ∷ map (λ call. refuses b a call number place after) (good_calls ++ bad_calls)

opens : List Case
unfolding D area lent left unmarked missing second missing_and_second ring wide every_call
opens =
    -- 1, and 1 before 2: "After 1, 2, 3 nothing has changed."
    every_call unmarked lent 1 0 lent
    ++ every_call (set wide 15 50) lent 1 0 lent
    -- 2, and 2 before 3
    ++ every_call wide (replicate 529 7) 2 0 (replicate 529 7)
    ++ every_call wide lent 2 0 lent
    -- 3, one word under W, and 3 before 4; W words pass
    ++ every_call D (take 75 lent) 3 0 (take 75 lent)
    ++ every_call missing (take 75 lent) 3 0 (take 75 lent)
    ++ (answers D (take 76 lent) (port 3) (1 ∷ 1 ∷ 1 ∷ []) (take 76 left) [] ∷ [])
    -- 4, and 5; the tables are accepted. "Other calls never change tables; past 3 they leave scratch 0"
    ++ every_call missing lent 4 2 left
    ++ every_call second lent 5 2 left
    -- 4 before 5 for one link; 4 before 7, 5 before 7
    ++ every_call missing_and_second lent 4 2 left
    ++ every_call missing (set lent 0 3) 4 2 (set left 0 3)
    ++ every_call second (set lent 0 3) 5 2 (set left 0 3)
    -- 7, and 7 before 8, before 9, before 12, before 14
    ++ every_call D (set lent 0 3) 7 0 (set left 0 3)
    -- "cycle, in preparing only": no tables are accepted then
    ++ every_call ring lent 7 0 left

-- ---- 7: a word of the tables changed, sentence by sentence of "Accepted tables"

unaccepted : ℕ → ℕ → Case
unaccepted i x = refuses D (set lent i x) (port 3) 7 0 (set left i x)

sentences : List Case
unfolding D area lent left blank alone unaccepted
sentences =
    -- "K ≤ L+N."
    unaccepted 0 7
    -- "The order holds each node once.": 1 1 2, and a single node's order, which no link asks for
    ∷ unaccepted 1 1
    ∷ answers (blank 1 0) (alone 0 7) (line (0 ∷ [])) (1 ∷ 0 ∷ []) (alone 0 0) []
    ∷ refuses (blank 1 0) (alone 5 7) (line (0 ∷ [])) 7 0 (alone 5 0)
    -- "Both start lists begin at 0, strictly rise and end at L+K."; all words 0, as preparing leaves them after 4, 5, 6
    ∷ refuses (blank 1 0) (replicate 17 0) (line (0 ∷ [])) 7 0 (replicate 17 0)
    ∷ unaccepted 7 1
    ∷ unaccepted 8 0
    ∷ unaccepted 10 4
    ∷ unaccepted 20 1
    ∷ unaccepted 21 0
    ∷ unaccepted 22 4
    -- "Entries are below K and N."
    ∷ unaccepted 15 2
    ∷ unaccepted 31 3
    -- "Positions strictly rise along a line."
    ∷ unaccepted 6 1
    -- "A node lists a line once exactly if the line lists it.": node 2 lists line 0 twice
    ∷ unaccepted 15 0
    -- "For two nodes a and b, as many links run from a to b ..": link 2 goes 0.0→2.1
    ∷ refuses (set (set D 28 0) 30 0) lent (port 3) 7 0 left
    -- "Every link goes forward in the order.": 1 0 2
    ∷ refuses D (set (set lent 1 1) 2 0) (port 3) 7 0 (set (set left 1 1) 2 0)
    ∷ []

-- ---- D with its tables

-- refused by a rule after 7, and answered
D_refuses : Call → ℕ → ℕ → Case
D_refuses call number place = refuses D lent call number place left

D_answers : Call → List ℕ → List ℕ → Case
D_answers call answer buffer = answers D lent call answer left buffer

lists : List Case
unfolding D area lent left old D_refuses D_answers
lists =
    -- line check: 8, 9, 10, the earliest entry of each; 9 before 10 (8 leaves no entry for 9)
    D_refuses (line []) 8 0
    ∷ D_refuses (line (0 ∷ 3 ∷ [])) 9 1
    ∷ D_refuses (line (3 ∷ 4 ∷ [])) 9 0
    ∷ D_refuses (line (1 ∷ 1 ∷ [])) 10 1
    ∷ D_refuses (line (0 ∷ 1 ∷ 0 ∷ 1 ∷ [])) 10 2
    ∷ D_refuses (line (1 ∷ 1 ∷ 3 ∷ [])) 9 2
    ∷ D_answers (line (0 ∷ 1 ∷ [])) (1 ∷ 0 ∷ []) []
    ∷ D_answers (line (0 ∷ 2 ∷ [])) (2 ∷ 0 ∷ []) []
    -- order check: 9; neither 8 nor 10
    ∷ D_refuses (order (0 ∷ 3 ∷ [])) 9 1
    ∷ D_refuses (order (1 ∷ 1 ∷ 3 ∷ [])) 9 2
    ∷ D_answers (order []) (1 ∷ []) []
    ∷ D_answers (order (1 ∷ 1 ∷ [])) (1 ∷ []) []
    ∷ D_answers (order (0 ∷ 2 ∷ [])) (2 ∷ []) []
    -- line check with ports: 8 before 14; 9 before the no for ports 1 and 0; 9 before 10; 10 before 14
    ∷ D_refuses (line_ports [] (6 ∷ []) []) 8 0
    ∷ D_refuses (line_ports (0 ∷ 3 ∷ []) (1 ∷ []) (0 ∷ [])) 9 1
    ∷ D_refuses (line_ports (1 ∷ 1 ∷ 3 ∷ []) [] []) 9 2
    ∷ D_refuses (line_ports (1 ∷ 1 ∷ []) (6 ∷ []) []) 10 1
    -- 14: inputs before outputs; "entry in its own list", before the no for ports 1 and 0
    ∷ D_refuses (line_ports (0 ∷ []) (0 ∷ 6 ∷ []) (7 ∷ [])) 14 1
    ∷ D_refuses (line_ports (0 ∷ []) (1 ∷ []) (0 ∷ 1 ∷ 6 ∷ [])) 14 2
    ∷ D_answers (line_ports (0 ∷ 1 ∷ []) (1 ∷ []) (0 ∷ [])) (2 ∷ 0 ∷ []) []
    ∷ D_answers (line_ports (0 ∷ 1 ∷ []) (5 ∷ []) (0 ∷ [])) (1 ∷ 0 ∷ []) []
    -- order check with ports: 9 before 14; 14; neither 8 nor 10
    ∷ D_refuses (order_ports (0 ∷ 3 ∷ []) (6 ∷ []) []) 9 1
    ∷ D_refuses (order_ports [] (0 ∷ 6 ∷ []) (7 ∷ [])) 14 1
    ∷ D_refuses (order_ports [] (1 ∷ []) (0 ∷ 1 ∷ 6 ∷ [])) 14 2
    ∷ D_answers (order_ports [] [] []) (1 ∷ []) []
    ∷ D_answers (order_ports (1 ∷ 1 ∷ []) (1 ∷ []) (0 ∷ [])) (2 ∷ []) []
    -- intervals: 9, 10; 9 before 10; 10 before 11; 11
    ∷ D_refuses (intervals (0 ∷ 3 ∷ []) (old 3)) 9 1
    ∷ D_refuses (intervals (1 ∷ 1 ∷ []) (old 7)) 10 1
    ∷ D_refuses (intervals (1 ∷ 1 ∷ 3 ∷ []) (old 3)) 9 2
    ∷ D_refuses (intervals (1 ∷ 1 ∷ []) (old 1)) 10 1
    ∷ D_refuses (intervals (1 ∷ []) (old 5)) 11 2
    -- "success writes only the result's length": two records; none, without 8
    ∷ D_answers (intervals (1 ∷ []) (old 6)) (1 ∷ 2 ∷ []) (0 ∷ 1 ∷ 1 ∷ 1 ∷ 1 ∷ 1 ∷ [])
    ∷ D_answers (intervals (1 ∷ []) (old 7)) (1 ∷ 2 ∷ []) (0 ∷ 1 ∷ 1 ∷ 1 ∷ 1 ∷ 1 ∷ old 1)
    ∷ D_answers (intervals [] (old 1)) (1 ∷ 0 ∷ []) (old 1)
    -- "11 is not given for "not contiguous"": two lines are touched, with no room for a record, then with room for two
    ∷ D_answers (intervals (0 ∷ 2 ∷ []) (old 1)) (2 ∷ []) (old 1)
    ∷ D_answers (intervals (0 ∷ 2 ∷ []) (old 6)) (2 ∷ []) (old 6)
    -- path (02, No. 1): 8, 9, 10; 9 before 10; 10 before 11; 11
    ∷ D_refuses (path [] (old 3)) 8 0
    ∷ D_refuses (path (0 ∷ 3 ∷ []) (old 3)) 9 1
    ∷ D_refuses (path (0 ∷ 2 ∷ 0 ∷ []) (old 3)) 10 2
    ∷ D_refuses (path (1 ∷ 1 ∷ 3 ∷ []) (old 3)) 9 2
    ∷ D_refuses (path (0 ∷ 2 ∷ 0 ∷ []) (old 1)) 10 2
    ∷ D_refuses (path (0 ∷ 2 ∷ []) (old 2)) 11 3
    -- "success writes only the result's length"; "no path" needs no room
    ∷ D_answers (path (0 ∷ 2 ∷ []) (old 3)) (1 ∷ 3 ∷ []) (0 ∷ 1 ∷ 2 ∷ [])
    ∷ D_answers (path (2 ∷ 0 ∷ []) (old 4)) (1 ∷ 3 ∷ []) (0 ∷ 1 ∷ 2 ∷ old 1)
    ∷ D_answers (path (0 ∷ 1 ∷ []) []) (2 ∷ []) []
    ∷ D_answers (path (0 ∷ 1 ∷ []) (old 3)) (2 ∷ []) (old 3)
    ∷ []

records : List Case
unfolding D area lent left old D_refuses D_answers
records =
    -- check by records: 8
    D_refuses (by_records [] 0) 8 0
    ∷ D_refuses (by_records (2 ∷ 0 ∷ 0 ∷ []) 0) 8 0
    -- 12: "A record count beyond the buffer gives 12 with the number of whole records as place, before any record is read"
    ∷ D_refuses (by_records (2 ∷ 0 ∷ 0 ∷ old 2) 2) 12 1
    ∷ D_refuses (by_records (2 ∷ 0 ∷ 0 ∷ []) 9) 12 1
    ∷ D_refuses (by_records [] 1) 12 0
    -- line ≥ K, line used before, lowest and highest not on the line, lowest above highest
    ∷ D_refuses (by_records (2 ∷ 0 ∷ 0 ∷ []) 1) 12 0
    ∷ D_refuses (by_records (0 ∷ 0 ∷ 0 ∷ 0 ∷ 0 ∷ 0 ∷ []) 2) 12 1
    ∷ D_refuses (by_records (1 ∷ 0 ∷ 1 ∷ []) 1) 12 0
    ∷ D_refuses (by_records (0 ∷ 0 ∷ 3 ∷ []) 1) 12 0
    ∷ D_refuses (by_records (0 ∷ 1 ∷ 0 ∷ []) 1) 12 0
    -- the earliest bad record
    ∷ D_refuses (by_records (0 ∷ 0 ∷ 0 ∷ 1 ∷ 2 ∷ 1 ∷ 2 ∷ 0 ∷ 0 ∷ []) 3) 12 1
    -- 12 before 13
    ∷ D_refuses (by_records (0 ∷ 0 ∷ 2 ∷ 2 ∷ 0 ∷ 0 ∷ []) 2) 12 1
    -- 13, "lowest such node": of 1 and 2; 2 alone; of 1 and 2, with a record on each line
    ∷ D_refuses (by_records (0 ∷ 0 ∷ 2 ∷ []) 1) 13 1
    ∷ D_refuses (by_records (0 ∷ 2 ∷ 2 ∷ []) 1) 13 2
    ∷ D_refuses (by_records (0 ∷ 0 ∷ 1 ∷ 1 ∷ 2 ∷ 2 ∷ []) 2) 13 1
    -- answered; words past the records may be anything
    ∷ D_answers (by_records (0 ∷ 0 ∷ 1 ∷ 1 ∷ 1 ∷ 1 ∷ []) 2) (1 ∷ 0 ∷ []) []
    ∷ D_answers (by_records (0 ∷ 0 ∷ 0 ∷ 2 ∷ 0 ∷ 0 ∷ []) 1) (1 ∷ 0 ∷ []) []
    -- extend: 9, "A single node or port is entry 0."; 9 before 12
    ∷ D_refuses (extend (0 ∷ 0 ∷ 0 ∷ old 1) 1 3) 9 0
    ∷ D_refuses (extend (2 ∷ 0 ∷ 0 ∷ old 1) 1 3) 9 0
    -- 12; 12 before 13; 13; 13 before 11
    ∷ D_refuses (extend (2 ∷ 0 ∷ 0 ∷ old 2) 2 1) 12 1
    ∷ D_refuses (extend (0 ∷ 0 ∷ 0 ∷ 1 ∷ 0 ∷ 1 ∷ []) 2 1) 12 1
    ∷ D_refuses (extend (0 ∷ 0 ∷ 2 ∷ 2 ∷ 0 ∷ 0 ∷ []) 2 0) 12 1
    ∷ D_refuses (extend (0 ∷ 2 ∷ 2 ∷ old 3) 1 2) 13 2
    ∷ D_refuses (extend (0 ∷ 2 ∷ 2 ∷ old 2) 1 2) 13 2
    -- 11; "success writes only the result's length"; from no records, without 8
    ∷ D_refuses (extend (0 ∷ 0 ∷ 0 ∷ old 2) 1 1) 11 2
    ∷ D_refuses (extend [] 0 1) 11 2
    ∷ D_answers (extend (0 ∷ 0 ∷ 0 ∷ old 3) 1 1) (1 ∷ 2 ∷ []) (0 ∷ 0 ∷ 1 ∷ 1 ∷ 1 ∷ 1 ∷ [])
    ∷ D_answers (extend (0 ∷ 0 ∷ 0 ∷ old 4) 1 1) (1 ∷ 2 ∷ []) (0 ∷ 0 ∷ 1 ∷ 1 ∷ 1 ∷ 1 ∷ old 1)
    ∷ D_answers (extend (old 7) 0 1) (1 ∷ 2 ∷ []) (0 ∷ 1 ∷ 1 ∷ 1 ∷ 1 ∷ 1 ∷ old 1)
    -- "11 is not given for .. "not extendable"", "records unchanged": line 1 would be new, with no room for its record, then with room
    ∷ D_answers (extend (0 ∷ 0 ∷ 0 ∷ []) 1 2) (2 ∷ []) (0 ∷ 0 ∷ 0 ∷ [])
    ∷ D_answers (extend (0 ∷ 0 ∷ 0 ∷ old 3) 1 2) (2 ∷ []) (0 ∷ 0 ∷ 0 ∷ old 3)
    -- nodes in records: 12; 12 before 13; 13; 13 before 11; 11; without 8
    ∷ D_refuses (nodes (2 ∷ 0 ∷ 0 ∷ old 2) 2 (old 1)) 12 1
    ∷ D_refuses (nodes (0 ∷ 1 ∷ 0 ∷ []) 1 (old 1)) 12 0
    ∷ D_refuses (nodes (0 ∷ 0 ∷ 2 ∷ 2 ∷ 0 ∷ 0 ∷ []) 2 (old 1)) 12 1
    ∷ D_refuses (nodes (0 ∷ 0 ∷ 2 ∷ []) 1 (old 3)) 13 1
    ∷ D_refuses (nodes (0 ∷ 0 ∷ 2 ∷ []) 1 (old 1)) 13 1
    ∷ D_refuses (nodes (0 ∷ 0 ∷ 1 ∷ 1 ∷ 1 ∷ 1 ∷ []) 2 (old 1)) 11 2
    ∷ D_answers (nodes (0 ∷ 0 ∷ 1 ∷ 1 ∷ 1 ∷ 1 ∷ []) 2 (old 2)) (1 ∷ 2 ∷ []) (0 ∷ 1 ∷ [])
    ∷ D_answers (nodes (0 ∷ 0 ∷ 1 ∷ 1 ∷ 1 ∷ 1 ∷ []) 2 (old 3)) (1 ∷ 2 ∷ []) (0 ∷ 1 ∷ old 1)
    ∷ D_answers (nodes [] 0 (old 1)) (1 ∷ 0 ∷ []) (old 1)
    ∷ []

ports : List Case
unfolding D area lent left old D_refuses D_answers
ports =
    -- 14: "A single node or port is entry 0."; the view is empty then
    D_refuses (port 6) 14 0
    ∷ shows D lent 6 []
    ∷ D_answers (port 3) (1 ∷ 1 ∷ 1 ∷ []) []
    ∷ shows D lent 3 (1 ∷ [])
    ∷ []

unfoldable pub cases : List Case
unfolding prepares opens sentences lists records ports
cases = prepares ++ opens ++ sentences ++ lists ++ records ++ ports

pub every_refusal : T (all right cases)
unfolding everything map_bytes in_count in_line_reply in_reply in_written in_shown in_pair right lent_buffer in_numbers plain with_buffer outcome gives cases prepares opens sentences lists records ports D area steps lent left unprepared zeros unmarked missing second missing_and_second ring wide blank alone good_calls bad_calls every_call unaccepted old D_refuses D_answers
every_refusal = tt
