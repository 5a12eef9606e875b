-- The tables in the area, at the places that the code reads them at, and 01's sentences on start lists, entries and positions.
-- Rests on paper's Accepted (start lists).
use Rattle.std.specs.Prelude.{ℕ, suc, ◌+◌, ◌≤◌, ◌<◌, List, map, length, get_or}
use Rattle.std.proofs.Math.Seq.{slice}
use Rattle.lists.specs.Lists.{Rising}
use Rattle.paper.specs.Accepted.{Starts}
use Rattle.tables.specs.declared.Layout.{Layout}

-- how many entries the lists of k lines have, and those of the nodes: "L+K"
abbrev pub entry_count : Layout → ℕ → ℕ
entry_count at k = at.sizes.links + k

-- where a node's lines start, and a line's nodes
abbrev pub node_start : List ℕ → Layout → ℕ → ℕ
node_start a at v = get_or a (at.begins + v) 0

abbrev pub line_start : List ℕ → Layout → ℕ → ℕ
line_start a at x = get_or a (at.starts + x) 0

-- the lines of a node, and the nodes of a line
abbrev pub lines_in : List ℕ → Layout → ℕ → List ℕ
lines_in a at v = slice (at.lines + node_start a at v) (at.lines + node_start a at (suc v)) a

abbrev pub nodes_on : List ℕ → Layout → ℕ → List ℕ
nodes_on a at x = slice (at.along + line_start a at x) (at.along + line_start a at (suc x)) a

-- an area in which the tables of k lines stand, as many as "K ≤ L+N" lets through
pub record Sized (a : List ℕ) (at : Layout) (k : ℕ) : Type 0 where
  pub few-nodes : at.sizes.nodes ≤ 512
  pub few-links : at.sizes.links ≤ 2048
  pub few-lines : k ≤ at.sizes.links + at.sizes.nodes
  pub positions-fit : at.positions + at.sizes.nodes ≤ length a
  pub begins-fit : at.begins + (at.sizes.nodes + 1) ≤ length a
  pub lines_fit : at.lines + entry_count at k ≤ length a
  pub starts_fit : at.starts + (k + 1) ≤ length a
  pub along-fit : at.along + entry_count at k ≤ length a

-- "Both start lists begin at 0, strictly rise and end at L+K. Entries are below K and N."
pub record Known (a : List ℕ) (at : Layout) (k : ℕ) : Type 0 where
  pub node_starts : Starts (node_start a at) at.sizes.nodes (entry_count at k)
  pub line_starts : Starts (line_start a at) k (entry_count at k)
  pub lines_known : (i : ℕ) → i < entry_count at k → get_or a (at.lines + i) 0 < k
  pub nodes_known : (i : ℕ) → i < entry_count at k → get_or a (at.along + i) 0 < at.sizes.nodes

pub record Tables (a : List ℕ) (at : Layout) (k : ℕ) : Type 0 where
  pub sized : Sized a at k
  pub known : Known a at k

-- "Positions strictly rise along a line."
abbrev pub Rise : List ℕ → Layout → ℕ → Type 0
Rise a at k = (x : ℕ) → x < k → Rising (map (λ v. get_or a (at.positions + v) 0) (nodes_on a at x))
