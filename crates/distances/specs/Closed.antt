-- Where the way back closes, in the case's own values.
-- Rests on paper's Path and Reached.
use Rattle.std.specs.Prelude.{ℕ, suc, ◌≡◌, List, Option, Some, None}
use Rattle.lists.specs.Lists.{least}
use Rattle.lists.specs.Found.{absent, at}
use Rattle.lists.proofs.Sections.{part}
use Rattle.paper.specs.Path.{ends_at, closing}
use Rattle.tables.specs.Within.{Within}
use Rattle.distances.specs.declared.queue.Queue.{Queue}
use Rattle.distances.specs.Met.{met_size}
use Rattle.distances.specs.Reached.{Told}

-- it closes at distance d, in the smallest listed step that is linked from there
pub record ClosesAt (b list m : List ℕ) (queue : Queue) (d end : ℕ) : Type 0 where
  pub below : ℕ
  pub distance : d ≡ suc below
  pub first : closing b list ≡ at below
  pub smallest : end ≡ least (ends_at b list d)
  pub told : Told b list m queue d

abbrev pub Closes : List ℕ → List ℕ → List ℕ → Queue → Option (ℕ × ℕ) → Type 0
Closes b list m queue None = closing b list ≡ absent
Closes b list m queue (Some (d, end)) = ClosesAt b list m queue d end

pub record Closed (b a : List ℕ) (queue : Queue) (count : ℕ) (r : Option (ℕ × ℕ)) (m : List ℕ) : Type 0 where
  pub closes : Closes b (part a queue.start count) m queue r
  pub list : part m queue.start count ≡ part a queue.start count
  pub kept : Within queue.start (met_size queue.nodes) a m
