-- Nodes pushed on lines: each line has a cursor, where its next node goes.
-- Rests on Columns.
use Rattle.std.specs.Prelude.{ℕ, suc, ◌+◌, ◌≤◌, ◌<◌, List, [], ◌∷◌, length, get_or, take, drop, set}
use Rattle.lists.specs.Lists.{times}
use Rattle.lists.specs.Weight.{total}
use Rattle.line_lists.specs.Columns.{row_in}

-- node v is pushed on line l: it goes where the line's cursor is, and the cursor moves on
unfoldable pub pushed : List ℕ → ℕ → ℕ → ℕ → ℕ → List ℕ
pushed a cursors nodes v l = set (set a (nodes + get_or a (cursors + l) 0) v) (cursors + l) (get_or a (cursors + l) 0 + 1)

-- .. on each of some lines
unfoldable pub row_pushed : List ℕ → ℕ → ℕ → ℕ → List ℕ → List ℕ
row_pushed a cursors nodes v [] = a
row_pushed a cursors nodes v (l ∷ ls) = row_pushed (pushed a cursors nodes v l) cursors nodes v ls

-- each of some nodes on each line of its row
unfoldable pub all_pushed : List ℕ → ℕ → ℕ → (ℕ → List ℕ) → List ℕ → List ℕ
all_pushed a cursors nodes row [] = a
all_pushed a cursors nodes row (v ∷ vs) = all_pushed (row_pushed a cursors nodes v (row v)) cursors nodes row vs

-- line l has a cursor before `nodes`, and room for `more` nodes from there on
pub record Roomy (a : List ℕ) (cursors nodes l more : ℕ) : Type 0 where
  pub before : cursors + l < nodes
  pub fits : nodes + (get_or a (cursors + l) 0 + more) ≤ length a
  pub small : get_or a (cursors + l) 0 + more < 65536

-- node v has a row at `lines`, before the cursors
pub record Rowed (a : List ℕ) (node_starts lines cursors v : ℕ) : Type 0 where
  pub started : node_starts + suc v < lines
  pub rises : get_or a (node_starts + v) 0 ≤ get_or a (node_starts + suc v) 0
  pub ends : lines + get_or a (node_starts + suc v) 0 ≤ cursors
  pub word : v < 65536

-- node v can be pushed on each line of its row
pub record RowPushing (a : List ℕ) (node_starts lines cursors nodes v : ℕ) : Type 0 where
  pub rowed : Rowed a node_starts lines cursors v
  pub after : cursors ≤ nodes
  pub inside : nodes ≤ length a
  pub room : (l : ℕ) → 1 ≤ times l (row_in a node_starts lines v) → Roomy a cursors nodes l (times l (row_in a node_starts lines v))

-- n nodes stand at `order`, and each can be pushed on each line of its row
pub record AllPushing (a : List ℕ) (n order node_starts lines cursors nodes : ℕ) : Type 0 where
  pub ordered : order + n ≤ node_starts
  pub rowed : (t : ℕ) → t < n → Rowed a node_starts lines cursors (get_or a (order + t) 0)
  pub after : cursors ≤ nodes
  pub inside : nodes ≤ length a
  pub room : (l : ℕ) → 1 ≤ total (λ v. times l (row_in a node_starts lines v)) (take n (drop order a))
      → Roomy a cursors nodes l (total (λ v. times l (row_in a node_starts lines v)) (take n (drop order a)))
