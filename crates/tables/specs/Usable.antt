-- What a call has once it is opened: a map that passes 1, 2, 4 and 5, an area that passes 3 and 7, and where its sections stand.
-- Rests on paper's Accepted and Refusals, stepmap's ReadWell, and Placed.
use Rattle.std.specs.Prelude.{ℕ, ◌+◌, ◌≤◌, ◌<◌, ◌≡◌, List, length, get_or}
use Rattle.std.proofs.Math.Seq.{slice}
use Rattle.paper.specs.Accepted.{Accepted}
use Rattle.paper.specs.Refusals.{passed, rule45}
use Rattle.stepmap.specs.Formed.{ReadWell}
use Rattle.tables.specs.declared.Layout.{Layout}
use Rattle.tables.specs.Placed.{Placed, scratch_size}
use Rattle.tables.specs.Within.{Within}

pub record Usable (b a : List ℕ) (at : Layout) : Type 0 where
  pub read : ReadWell b at.sizes.nodes at.sizes.links at.sizes.ports
  pub placed : Placed b at
  pub links : rule45 b ≡ passed
  pub room : at.end ≤ length a
  pub tables : Accepted b a

-- m came of a by writing to the scratch alone
abbrev pub Scratched : Layout → List ℕ → List ℕ → Type 0
Scratched at a m = Within at.scratch (scratch_size at.sizes) a m

-- list x of those whose entries stand at `at` and whose starts stand at `starts`
unfoldable pub entries_of : List ℕ → ℕ → ℕ → ℕ → List ℕ
entries_of a starts at x = slice (at + get_or a (starts + x) 0) (at + get_or a (starts + (x + 1)) 0) a

-- .. and it is a part of the area
pub record Spanned (a : List ℕ) (starts at x : ℕ) : Type 0 where
  pub starts-inside : starts + (x + 1) < length a
  pub rises : get_or a (starts + x) 0 ≤ get_or a (starts + (x + 1)) 0
  pub ends-inside : at + get_or a (starts + (x + 1)) 0 ≤ length a
