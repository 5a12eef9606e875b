-- What each question of the file is, and when its line agrees with 01: the line's rest, behind the question, is what the call answers on this map and
-- area. Rests on paper's Calls, on Parts and on Answers.
use Rattle.std.specs.Prelude.{ℕ, ◌+◌, ◌*◌, Bool, ◌&&◌, List, get_or, drop, leb}
use Rattle.lists.specs.Lists.{same}
use Rattle.paper.specs.Calls.{
  prepare,
  area_after,
  is_node_convex,
  topo_is_node_convex,
  is_convex,
  topo_is_convex,
  is_convex_by_intervals,
  get_intervals_from_nodes,
  try_extend_intervals,
  nodes_in_intervals,
  lines_at_port,
  view_of_port,
}
use Rattle.recorded.specs.Parts.{list_at, behind}
use Rattle.recorded.specs.Answers.{line_words, order_words, written_words, count_words, pair_words, with_list}

-- 1 N L fields; whether preparing answers so
unfoldable pub same_prepared : List ℕ → List ℕ → List ℕ → Bool
same_prepared line b a = same (drop (3 + 2 * get_or line 1 0 + 4 * get_or line 2 0) line) (count_words (prepare b a).answer)

-- 8 [list]
unfoldable pub same_line_check : List ℕ → List ℕ → List ℕ → Bool
same_line_check line b a = same (drop (behind line 1) line) (line_words (is_node_convex b a (list_at line 1)).answer)

-- 9 [list]
unfoldable pub same_order_check : List ℕ → List ℕ → List ℕ → Bool
same_order_check line b a = same (drop (behind line 1) line) (order_words (topo_is_node_convex b a (list_at line 1)).answer)

-- 10 count [records]
unfoldable pub same_record_check : List ℕ → List ℕ → List ℕ → Bool
same_record_check line b a =
    same (drop (behind line 2) line) (line_words (is_convex_by_intervals b a (list_at line 2) (get_or line 1 0)).answer)

-- a buffer that the program has the room for
abbrev pub room_for : List ℕ → ℕ → Bool
room_for line at = leb (get_or line at 0) 7680

-- 11 [list] [buffer]; behind the answer stands the buffer afterwards
unfoldable pub same_intervals : List ℕ → List ℕ → List ℕ → Bool
same_intervals line b a =
    let at = behind line 1 in
    let left = get_intervals_from_nodes b a (list_at line 1) (list_at line at) in
    room_for line at && same (drop (behind line at) line) (with_list (written_words left.answer) left.buffer)

-- 12 count node [buffer with the records]; behind the answer stands the buffer afterwards
unfoldable pub same_extension : List ℕ → List ℕ → List ℕ → Bool
same_extension line b a =
    let left = try_extend_intervals b a (list_at line 3) (get_or line 1 0) (get_or line 2 0) in
    room_for line 3 && same (drop (behind line 3) line) (with_list (written_words left.answer) left.buffer)

-- 13 count [records] [buffer]; behind the answer stands the buffer afterwards
unfoldable pub same_nodes : List ℕ → List ℕ → List ℕ → Bool
same_nodes line b a =
    let at = behind line 2 in
    let left = nodes_in_intervals b a (list_at line 2) (get_or line 1 0) (list_at line at) in
    room_for line at && same (drop (behind line at) line) (with_list (count_words left.answer) left.buffer)

-- 14 port; behind the answer stand the lines that are viewed in the area then
unfoldable pub same_port_lines : List ℕ → List ℕ → List ℕ → Bool
same_port_lines line b a =
    let port = get_or line 1 0 in
    same (drop 2 line) (with_list (pair_words (lines_at_port b a port).answer) (view_of_port b (area_after b a) port))

-- 15 [list] [inputs] [outputs]
unfoldable pub same_line_ports : List ℕ → List ℕ → List ℕ → Bool
same_line_ports line b a =
    let inputs = behind line 1 in
    let outputs = behind line inputs in
    same (drop (behind line outputs) line)
    (line_words (is_convex b a (list_at line 1) (list_at line inputs) (list_at line outputs)).answer)

-- 16 [list] [inputs] [outputs]
unfoldable pub same_order_ports : List ℕ → List ℕ → List ℕ → Bool
same_order_ports line b a =
    let inputs = behind line 1 in
    let outputs = behind line inputs in
    same (drop (behind line outputs) line)
    (order_words (topo_is_convex b a (list_at line 1) (list_at line inputs) (list_at line outputs)).answer)
