-- The frontier as it stands in the area: the lines of each port's ends as a stack, the placed nodes with their positions and lists.
-- Rests on Layout, Spread and paper.Lines.
use Rattle.std.specs.Prelude.{ℕ, suc, ◌+◌, ◌-◌, ◌≤◌, ◌<◌, ◌≡◌, length, get_or, take, eqb}
use mathlib.Core.List.{List, [], ◌∷◌, ◌++◌, map, Memᴰ}
use Rattle.lists.specs.Lists.{keep, times}
use Rattle.paper.specs.Map.{in_links}
use Rattle.paper.specs.Order.{order}
use Rattle.paper.specs.Lines.{End, Placed, Taking, Frontier, take_all, push, frontier_after}
use Rattle.lines_theory.specs.Lined.{sources, targets, taking, newcomer, level}
use Rattle.counting_sort.specs.Sorted.{below}
use Rattle.tables.specs.declared.Layout.{Layout}
use Rattle.line_tables.specs.declared.room.Room.{Room}
use Rattle.line_tables.specs.Layout.{out_keys, start_of}
use Rattle.line_tables.specs.Spread.{Spread}

-- how many ends stand at a port, and their lines, the last pushed in front
abbrev pub height : ℕ → List End → ℕ
height q ends = times q (map (λ e. e.port) ends)

abbrev pub lines_at : ℕ → List End → List ℕ
lines_at q ends = map (λ e. e.line) (keep (λ e. eqb e.port q) ends)

-- every port has a stack, as many words as it has links: the lines of its ends, the last pushed on top
pub record Stacks (b a : List ℕ) (at : Layout) (room : Room) (ends : List End) : Type 0 where
  pub few : (q : ℕ) → height q ends ≤ times q (out_keys b)
  pub tops : (q : ℕ) → q < at.sizes.ports → get_or a (room.tops + q) 0 ≡ below (out_keys b) q + height q ends
  pub lines : (q : ℕ) → q < at.sizes.ports → (i : ℕ) → i < height q ends
      → get_or a (room.stack + (below (out_keys b) q + i)) 0 ≡ get_or (lines_at q ends) (height q ends - suc i) 0

-- each placed node has its position and its list
pub record Held (b a : List ℕ) (at : Layout) (placed : List Placed) : Type 0 where
  pub positions : (x : Placed) → Memᴰ x placed → get_or a (at.positions + x.node) 0 ≡ x.position
  pub lists : (x : Placed) → Memᴰ x placed → (i : ℕ) → i < length x.lines
      → get_or a (at.lines + (start_of b x.node + i)) 0 ≡ get_or x.lines i 0

-- node t of the order, and the frontier before it
abbrev pub node_at : List ℕ → ℕ → ℕ
node_at b t = get_or (order b) t 0

abbrev pub frontier_at : List ℕ → ℕ → Frontier
frontier_at b t = frontier_after b (order b) t

-- after t nodes
pub record Turned (b a : List ℕ) (at : Layout) (room : Room) (t : ℕ) : Type 0 where
  pub spread : Spread b a at room
  pub stacks : Stacks b a at room (frontier_at b t).ends
  pub held : Held b a at (frontier_at b t).placed

-- within a node: after lines from its first j linked inputs
abbrev pub taking_to : List ℕ → ℕ → ℕ → Taking
taking_to b t j = take_all (take j (sources b (node_at b t))) (record { taken = []; ends = (frontier_at b t).ends })

pub record TakenTo (b a : List ℕ) (at : Layout) (room : Room) (t j : ℕ) : Type 0 where
  pub stacks : Stacks b a at room (taking_to b t j).ends
  pub held : Held b a at (frontier_at b t).placed
  pub row : (i : ℕ) → i < j → get_or a (at.lines + (start_of b (node_at b t) + i)) 0 ≡ get_or (map (λ e. e.line) (taking_to b t j).taken) i 0

-- within a node: after lines to its first j outgoing links
abbrev pub pushed_to : List ℕ → ℕ → ℕ → List End
pushed_to b t j =
    let v = node_at b t in
    let f = frontier_at b t in
    push (level b v f) (take j (targets b v)) (newcomer b v f).lines (taking b v f).ends

pub record PushedTo (b a : List ℕ) (at : Layout) (room : Room) (t j : ℕ) : Type 0 where
  pub stacks : Stacks b a at room (pushed_to b t j)
  pub held : Held b a at ((frontier_at b t).placed ++ (newcomer b (node_at b t) (frontier_at b t) ∷ []))

-- ---- what each step of a node's turn finds

-- where the list of node t of the order starts, is within the area
pub record ListStart (a : List ℕ) (at : Layout) (t : ℕ) : Type 0 where
  pub node-inside : at.order + t < length a
  pub start-inside : at.begins + get_or a (at.order + t) 0 < length a
  pub list_inside : at.lines + get_or a (at.begins + get_or a (at.order + t) 0) 0 ≤ length a

-- it has taken its lines, and its position stands
pub record Seated (b a : List ℕ) (at : Layout) (room : Room) (t : ℕ) : Type 0 where
  pub taken : TakenTo b a at room t (length (in_links b (node_at b t)))
  pub seat : get_or a (at.positions + node_at b t) 0 ≡ level b (node_at b t) (frontier_at b t)
