-- Tables whose parts fit the area's sections: the premise for reading back what is written.
-- Rests on paper.Lines and paper.Area.
use Rattle.std.specs.Prelude.{ℕ, ◌+◌, ◌≤◌, ◌≡◌, length}
use mathlib.Core.List.{List, map, flat_map}
use Rattle.std.proofs.lemmas.List.Edits.{sets}
use Rattle.lists.specs.Lists.{sum, pad}
use Rattle.paper.specs.Map.{N, L}
use Rattle.paper.specs.Lines.{Tables}
use Rattle.paper.specs.Area.{sections, size, contents}

pub record Sized (b : List ℕ) (t : Tables) : Type 0 where
  -- K ≤ L + N
  pub few : t.count ≤ L b + N b
  pub ordered : length t.order ≡ N b
  pub placed : length t.positions ≡ N b
  pub nodes : length t.lines_of_nodes ≡ N b
  pub lines : length t.nodes_of_lines ≡ t.count
  -- "Entries in use: L+K in each list."
  pub line_entries : sum (map length t.lines_of_nodes) ≡ L b + t.count
  pub node_entries : sum (map length t.nodes_of_lines) ≡ L b + t.count

-- the eight sections one after the other, each with its contents and 0 to its end
unfoldable pub laid : List ℕ → Tables → List ℕ
laid b t = flat_map (λ s. pad (size b s) (contents t s)) sections

-- an area with tables laid into it
unfoldable pub holding : List ℕ → Tables → List ℕ → List ℕ
holding b t a = sets a 0 (laid b t)
