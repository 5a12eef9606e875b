-- What the sort of the links asks: a sound map, its first ports in one section of the area, and room for the keys after it.
-- Rests on paper, stepmap's ReadWell and the counting sort's definitions.
use Rattle.std.specs.Prelude.{ℕ, ◌+◌, ◌≤◌, ◌<◌, ◌≡◌, List, map, length, get_or, take, drop}
use Rattle.std.proofs.lemmas.List.Edits.{sets}
use Rattle.lists.specs.Lists.{upto}
use Rattle.counting_sort.specs.Sorted.{starts_by, sorted_by}
use Rattle.paper.specs.Map.{first_port}
use Rattle.paper.specs.Refusals.{passed, rule45}
use Rattle.stepmap.specs.Formed.{ReadWell}
use Rattle.stepmap.specs.declared.read.Sizes.{Sizes}
use Rattle.neighbours.specs.declared.Listing.{Listing}

-- the map b passes 1, 2, 4 and 5, the first ports of its nodes and their number stand at `firsts`, and a key of each link fits after them
pub record Tabled (b a : List ℕ) (s : Sizes) (at : Listing) : Type 0 where
  pub read : ReadWell b s.nodes s.links s.ports
  pub links : rule45 b ≡ passed
  pub table : take (s.nodes + 1) (drop at.firsts a) ≡ map (first_port b) (upto (s.nodes + 1))
  pub apart : at.firsts + (s.nodes + 1) ≤ at.keys
  pub room : at.keys + s.links ≤ length a

-- .. and after the keys stand room for a start of each port, and for the links by port
pub record Roomy (b a : List ℕ) (s : Sizes) (at : Listing) : Type 0 where
  pub tabled : Tabled b a s at
  pub after-keys : at.keys + s.links ≤ at.starts
  pub after-starts : at.starts + (s.ports + 1) ≤ at.sorted
  pub room : at.sorted + s.links ≤ length a

-- the links by port and listing order, for the port that each link starts or ends at: where each port starts, and the links
unfoldable pub by_port : List ℕ → Sizes → Listing → List ℕ → List ℕ
by_port a s at ks = sets (sets (sets a at.keys ks) at.starts (starts_by ks s.ports)) at.sorted (sorted_by ks s.ports)

-- a node's first port stands at `firsts`, and where its links start at `starts`
pub record Spanned (a : List ℕ) (at : Listing) (v : ℕ) : Type 0 where
  pub first-inside : at.firsts + v < length a
  pub start-inside : at.starts + get_or a (at.firsts + v) 0 < length a
