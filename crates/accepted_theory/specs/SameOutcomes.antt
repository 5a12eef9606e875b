-- What every call says of two areas, and what it writes into a lent buffer: the same.
-- Rests on paper's Calls.
use Rattle.std.specs.Prelude.{ℕ, ◌≡◌, List}
use Rattle.paper.specs.Calls.{
  Left,
  LeftWith,
  prepare,
  is_node_convex,
  topo_is_node_convex,
  is_convex,
  topo_is_convex,
  get_intervals_from_nodes,
  is_convex_by_intervals,
  try_extend_intervals,
  nodes_in_intervals,
  show_path,
  lines_at_port,
  view_at,
  view_of_port,
}

abbrev pub SameAnswer : {A : Type 0} → Left A → Left A → Type 0
SameAnswer x y = x.answer ≡ y.answer

abbrev pub SameWritten : {A : Type 0} → LeftWith A → LeftWith A → Type 0
SameWritten x y = (x.answer ≡ y.answer) × (x.buffer ≡ y.buffer)

-- whatever list, records, node or ports are asked for
pub record SameOutcomes (b a c : List ℕ) : Type 0 where
  pub preparing : SameAnswer (prepare b a) (prepare b c)
  pub line_check : (list : List ℕ) → SameAnswer (is_node_convex b a list) (is_node_convex b c list)
  pub order_check : (list : List ℕ) → SameAnswer (topo_is_node_convex b a list) (topo_is_node_convex b c list)
  pub line_check_with_ports : (list inputs outputs : List ℕ) → SameAnswer (is_convex b a list inputs outputs) (is_convex b c list inputs outputs)
  pub order_check_with_ports : (list inputs outputs : List ℕ) → SameAnswer (topo_is_convex b a list inputs outputs) (topo_is_convex b c list inputs outputs)
  pub intervals : (list buffer : List ℕ) → SameWritten (get_intervals_from_nodes b a list buffer) (get_intervals_from_nodes b c list buffer)
  pub check_by_records : (words : List ℕ) (n : ℕ) → SameAnswer (is_convex_by_intervals b a words n) (is_convex_by_intervals b c words n)
  pub extending : (words : List ℕ) (n v : ℕ) → SameWritten (try_extend_intervals b a words n v) (try_extend_intervals b c words n v)
  pub nodes_in_records : (words : List ℕ) (n : ℕ) (buffer : List ℕ) → SameWritten (nodes_in_intervals b a words n buffer) (nodes_in_intervals b c words n buffer)
  pub path_shown : (list buffer : List ℕ) → SameWritten (show_path b a list buffer) (show_path b c list buffer)
  pub lines_at_one : (p : ℕ) → SameAnswer (lines_at_port b a p) (lines_at_port b c p)
  pub view_place : (p : ℕ) → view_at b a p ≡ view_at b c p
  pub view : (p : ℕ) → view_of_port b a p ≡ view_of_port b c p
