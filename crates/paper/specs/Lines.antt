-- 01, "Lines" (`line_convex_checker.rs`): the frontier of line ends and the nodes placed, after each node of the order.
-- Rests on Map and Order.
use Rattle.std.specs.Prelude.{ℕ, zero, suc, ◌+◌, ◌-◌, cond, List, [], ◌∷◌, ◌++◌, map, length, get_or, take, eqb}
use Rattle.lists.specs.Lists.{from, upto, keep, member, greatest}
use Rattle.paper.specs.Map.{N, source_port, in_links, out_links}
use Rattle.paper.specs.Order.{order}

-- a line's end, pushed at an output port with the position of the port's node
pub record End : Type 0 where
  pub port : ℕ
  pub line : ℕ
  pub position : ℕ

-- a node with its position and its list of lines
pub record Placed : Type 0 where
  pub node : ℕ
  pub position : ℕ
  pub lines : List ℕ

-- the ends that stand, the last pushed in front; the nodes placed, in order; how many lines there are
pub record Frontier : Type 0 where
  pub ends : List End
  pub placed : List Placed
  pub count : ℕ

-- ---- "a node takes, by input port, one line from each linked output port: the line pushed there last of those still there"

-- what a node has taken, and the ends still there
pub record Taking : Type 0 where
  pub taken : List End
  pub ends : List End

unfoldable pub last_pushed : ℕ → List End → List End
last_pushed p ends = take 1 (keep (λ e. eqb e.port p) ends)

unfoldable pub without : ℕ → List End → List End
without p [] = []
without p (e ∷ ends) = cond (eqb e.port p) ends (e ∷ without p ends)

unfoldable pub take_from : ℕ → Taking → Taking
take_from p t = record { taken = t.taken ++ last_pushed p t.ends; ends = without p t.ends }

unfoldable pub take_all : List ℕ → Taking → Taking
take_all [] t = t
take_all (p ∷ ps) t = take_all ps (take_from p t)

-- "Its position is 0, or 1 above the largest position met."
unfoldable pub position_above : List End → ℕ
position_above [] = 0
position_above (e ∷ es) = suc (greatest (map (λ x. x.position) (e ∷ es)))

-- "Its outgoing links reuse the taken lines in turn, then get new lines, numbered from 0. A node with no link at all gets one new line."
unfoldable pub new_lines : ℕ → ℕ → ℕ
new_lines taken outgoing = cond (eqb (taken + outgoing) 0) 1 (outgoing - taken)

unfoldable pub push : ℕ → List ℕ → List ℕ → List End → List End
push position [] lines ends = ends
push position (p ∷ ps) [] ends = ends
push position (p ∷ ps) (l ∷ lines) ends = push position ps lines (record { port = p; line = l; position = position } ∷ ends)

-- "Its list is the taken lines, then the new ones."
unfoldable pub place : List ℕ → ℕ → Frontier → Frontier
place b v f =
    let t = take_all (map (source_port b) (in_links b v)) (record { taken = []; ends = f.ends }) in
    let old = map (λ e. e.line) t.taken in
    let new = from f.count (new_lines (length old) (length (out_links b v))) in
    let position = position_above t.taken in
    record {
      ends = push position (map (source_port b) (out_links b v)) (old ++ new) t.ends;
      placed = f.placed ++ (record { node = v; position = position; lines = old ++ new } ∷ []);
      count = f.count + length new;
    }

-- "In that order": after t nodes of an order
unfoldable pub frontier_after : List ℕ → List ℕ → ℕ → Frontier
frontier_after b order zero = record { ends = []; placed = []; count = 0 }
frontier_after b order (suc t) = place b (get_or order t 0) (frontier_after b order t)

-- ---- the tables that preparing lays into the area

pub record Tables : Type 0 where
  pub count : ℕ
  pub order : List ℕ
  pub positions : List ℕ
  pub lines_of_nodes : List (List ℕ)
  pub nodes_of_lines : List (List ℕ)

unfoldable pub placed_as : ℕ → List Placed → Placed
placed_as v [] = record { node = v; position = 0; lines = [] }
placed_as v (x ∷ xs) = cond (eqb x.node v) x (placed_as v xs)

-- by node: its position and its list; by line: the nodes that list it, in order
unfoldable pub tables_of : ℕ → List ℕ → Frontier → Tables
tables_of n order f =
    record {
      count = f.count;
      order = order;
      positions = map (λ v. (placed_as v f.placed).position) (upto n);
      lines_of_nodes = map (λ v. (placed_as v f.placed).lines) (upto n);
      nodes_of_lines = map (λ l. map (λ x. x.node) (keep (λ x. member l x.lines) f.placed)) (upto f.count);
    }

unfoldable pub tables : List ℕ → Tables
tables b = let o = order b in tables_of (N b) o (frontier_after b o (length o))
