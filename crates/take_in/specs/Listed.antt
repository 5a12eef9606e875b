-- A list of nodes as it stands in the scratch's first words: nodes of the map, each once.
-- Rests on tables' Layout.
use Rattle.std.specs.Prelude.{ℕ, ◌+◌, ◌≤◌, ◌<◌, List, get_or}
use Rattle.lists.specs.Lists.{Distinct}
use Rattle.lists.proofs.Sections.{part}
use Rattle.tables.specs.declared.Layout.{Layout}

-- the `count` nodes in the scratch's first words
abbrev pub list_in : List ℕ → Layout → ℕ → List ℕ
list_in a at count = part a at.scratch count

pub record Listed (a : List ℕ) (at : Layout) (count : ℕ) : Type 0 where
  pub few : count ≤ at.sizes.nodes
  pub known : (i : ℕ) → i < count → get_or a (at.scratch + i) 0 < at.sizes.nodes
  pub once : Distinct (list_in a at count)
