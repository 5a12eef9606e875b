-- 01, "The questions": intervals, and the two answers that every check gives.
-- Rests on Area.
use Rattle.std.specs.Prelude.{ℕ, Bool, ◌&&◌, ◌||◌, not, cond, leb}
use mathlib.Core.List.{List, map, flat_map}
use Rattle.lists.specs.Lists.{all, keep, member, least, greatest, once}
use Rattle.paper.specs.Area.{position, lines_of, nodes_of}

pub data Reply : Type 0 where
  Yes No : Reply

-- "a record of three words (line, lowest, highest position)"
pub record Interval : Type 0 where
  pub line : ℕ
  pub lowest : ℕ
  pub highest : ℕ

-- what a list of nodes, or an extension, comes to: records, which may be no records at all; or that nodes stand apart on a line, with another
-- node between them: "not contiguous" of a list, "not extendable" of an extension
pub data Records : Type 0 where
  records : List Interval → Records
  apart : Records

-- "for each line touched, first seen first"
unfoldable pub touched : List ℕ → List ℕ → List ℕ → List ℕ
touched b a list = once (flat_map (lines_of b a) list)

-- the positions of the listed nodes on a line
unfoldable pub listed_positions : List ℕ → List ℕ → List ℕ → ℕ → List ℕ
listed_positions b a list l = map (position b a) (keep (λ v. member v list) (nodes_of b a l))

unfoldable pub interval : List ℕ → List ℕ → List ℕ → ℕ → Interval
interval b a list l =
    record { line = l; lowest = least (listed_positions b a list l); highest = greatest (listed_positions b a list l) }

unfoldable pub within : Interval → ℕ → Bool
within r p = leb r.lowest p && leb p r.highest

-- the line has no unlisted node between
unfoldable pub contiguous : List ℕ → List ℕ → List ℕ → ℕ → Bool
contiguous b a list l = all (λ v. member v list || not (within (interval b a list l) (position b a v))) (nodes_of b a l)

-- ".. or "not contiguous" when the line has an unlisted node between. An empty list gives no records."
unfoldable pub intervals : List ℕ → List ℕ → List ℕ → Records
intervals b a list =
    let lines = touched b a list in
    cond (all (contiguous b a list) lines) (records (map (interval b a list) lines)) apart
