-- The pairs that the last two sentences compare: a node and a line that lists it, a node and the next one on a line, a link's two ends.
-- Rests on Tables and groups' pairs.
use Rattle.std.specs.Prelude.{ℕ, suc, ◌+◌, ◌-◌, ◌≤◌, ◌<◌, ◌≡◌, length, take, drop, replicate}
use mathlib.Core.List.{List, map, flat_map}
use Rattle.lists.specs.Lists.{upto, times}
use Rattle.lists.proofs.Sections.{part}
use Rattle.paper.specs.Map.{link_from, link_to}
use Rattle.stepmap.specs.Formed.{HasLink}
use Rattle.stepmap.specs.declared.read.Sizes.{Sizes}
use Rattle.tables.specs.declared.Layout.{Layout}
use Rattle.groups.specs.Groups.{hits, AtZero}
use Rattle.agreement.specs.Tables.{entry_count, line_start, lines_in, nodes_on, Tables}

-- beside each node of the lines' nodes the number of its line
unfoldable pub line_numbers : List ℕ → Layout → ℕ → List ℕ
line_numbers a at k = flat_map (λ x. replicate (line_start a at (suc x) - line_start a at x) x) (upto k)

-- A node lists each line as often as the line lists it.
abbrev pub ListsAgree : List ℕ → Layout → ℕ → Type 0
ListsAgree a at k =
    (v : ℕ) → v < at.sizes.nodes → (x : ℕ) → times x (lines_in a at v) ≡ hits v x (part a at.along (entry_count at k)) (line_numbers a at k)

-- all nodes of the lines but each line's last, and all but each line's first
unfoldable pub fronts : List ℕ → Layout → ℕ → List ℕ
fronts a at k = flat_map (λ x. take (length (nodes_on a at x) - 1) (nodes_on a at x)) (upto k)

unfoldable pub backs : List ℕ → Layout → ℕ → List ℕ
backs a at k = flat_map (λ x. drop 1 (nodes_on a at x)) (upto k)

-- the nodes that the first l links start at, and those that they end at
abbrev pub sources : List ℕ → ℕ → List ℕ
sources b l = map (link_from b) (upto l)

abbrev pub targets : List ℕ → ℕ → List ℕ
targets b l = map (link_to b) (upto l)

-- As many links run from one node to another as the other stands next on lines.
abbrev pub LinksAgree : List ℕ → List ℕ → Layout → ℕ → Type 0
LinksAgree b a at k =
    (u : ℕ) → u < at.sizes.nodes → (w : ℕ)
    → hits u w (sources b at.sizes.links) (targets b at.sizes.links) ≡ hits u w (fronts a at k) (backs a at k)

-- the tables, and rooms for the lines' numbers, for the sort, and for a counter of each line
pub record ListsRoom (a : List ℕ) (at : Layout) (k : ℕ) (lines room counters : List ℕ) : Type 0 where
  pub tables : Tables a at k
  pub lines_fit : entry_count at k ≤ length lines
  pub room_fits : entry_count at k + (at.sizes.nodes + 1) + entry_count at k ≤ length room
  pub counters-fit : k ≤ length counters
  pub zeros : AtZero counters

-- links that run between known nodes
pub record Linked (b : List ℕ) (s : Sizes) : Type 0 where
  pub few : s.links ≤ 2048
  pub few-nodes : s.nodes ≤ 512
  pub link : (i : ℕ) → i < s.links → HasLink b s.nodes i
  pub from : (i : ℕ) → i < s.links → link_from b i < s.nodes
  pub to : (i : ℕ) → i < s.links → link_to b i < s.nodes

-- links between known nodes, tables, and rooms for two sorts of the links and for a counter of each node
pub record LinksRoom (b a : List ℕ) (at : Layout) (k : ℕ) (links ends pairs nexts counters : List ℕ) : Type 0 where
  pub linked : Linked b at.sizes
  pub tables : Tables a at k
  pub links-fit : at.sizes.links + (at.sizes.nodes + 1) + at.sizes.links ≤ length links
  pub ends-fit : at.sizes.links ≤ length ends
  pub pairs-fit : at.sizes.links + (at.sizes.nodes + 1) + at.sizes.links ≤ length pairs
  pub nexts_fit : at.sizes.links ≤ length nexts
  pub counters-fit : at.sizes.nodes ≤ length counters
  pub zeros : AtZero counters
