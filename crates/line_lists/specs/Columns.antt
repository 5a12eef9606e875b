-- The lists of the nodes, read from the area as rows, and the lists of the lines, which are their columns.
-- Rests on lists and on paper's starts.
use Rattle.std.specs.Prelude.{ℕ, suc, ◌+◌, ◌≤◌, ◌<◌, ◌≡◌, length, get_or, take, drop}
use mathlib.Core.List.{List, [], map, flatten}
use Rattle.std.proofs.Math.Seq.{slice}
use Rattle.lists.specs.Lists.{upto, keep, member, times, sum}
use Rattle.lists.specs.Bounds.{Below}
use Rattle.paper.specs.Area.{starts}

-- the lines of node v: the words of `lines` from the node's start to the next one's
unfoldable pub row_in : List ℕ → ℕ → ℕ → ℕ → List ℕ
row_in a node_starts lines v = slice (lines + get_or a (node_starts + v) 0) (lines + get_or a (node_starts + suc v) 0) a

-- for each line below k, the nodes whose row has it, in the order of us
unfoldable pub columns : (ℕ → List ℕ) → List ℕ → ℕ → List (List ℕ)
columns row us k = map (λ l. keep (λ v. member l (row v)) us) (upto k)

-- the columns of the rows and the order that stand in the area
unfoldable pub columns_in : List ℕ → ℕ → ℕ → ℕ → ℕ → ℕ → List (List ℕ)
columns_in a n k order node_starts lines = columns (row_in a node_starts lines) (take n (drop order a)) k

-- n rows stand at `lines` with their starts, each with lines below k and none twice; an order of their nodes stands before them, and
-- there is room after them for the starts of k columns and for the columns.
pub record Transposing (a : List ℕ) (n k entries order node_starts lines line_starts nodes : ℕ) : Type 0 where
  pub rows : List (List ℕ)
  pub after-order : order + n ≤ node_starts
  pub after-starts : node_starts + (n + 1) ≤ lines
  pub after-lines : lines + entries ≤ line_starts
  pub after-line-starts : line_starts + (k + 1) ≤ nodes
  pub room : nodes + entries ≤ length a
  pub small : entries < 65536
  pub few : n ≤ 65536
  pub count : length rows ≡ n
  pub total : entries ≡ sum (map length rows)
  pub starts_stand : take (n + 1) (drop node_starts a) ≡ starts 0 rows
  pub lines_stand : take entries (drop lines a) ≡ flatten rows
  pub known : (v : ℕ) → v < n → Below k (get_or rows v [])
  pub once : (v l : ℕ) → v < n → times l (get_or rows v []) ≤ 1
  pub nodes-known : Below n (take n (drop order a))
  pub nodes-once : (v : ℕ) → v < n → times v (take n (drop order a)) ≡ 1
