-- What the walk asks of the area before its turns, and what it answers.
-- Rests on paper's Walk, answers' Said, and on Queue, Lows and Fitting.
use Rattle.std.specs.Prelude.{ℕ, ◌+◌, ◌<◌, ◌≡◌, List, [], get_or}
use Rattle.lists.proofs.Sections.{part}
use Rattle.paper.specs.Area.{K}
use Rattle.paper.specs.Records.{records_in}
use Rattle.paper.specs.Walk.{start_nodes, walk}
use Rattle.walk_theory.specs.Marked.{join_all}
use Rattle.answers.specs.declared.Verdict.{Verdict}
use Rattle.answers.specs.Said.{verdict_said}
use Rattle.tables.specs.declared.Layout.{Layout}
use Rattle.tables.specs.Usable.{Usable, Scratched}
use Rattle.tables.specs.Recorded.{Recorded}
use Rattle.neighbours.specs.Linked.{Outgoing}
use Rattle.walk.specs.Queue.{Queued}
use Rattle.walk.specs.Lows.{low_on}
use Rattle.walk.specs.Fitting.{Fits, Queueing}
use Rattle.walk.specs.declared.starts.Room.{Room}

-- records that pass 12, and in the walk's room the records' lowest positions by line, and the links
pub record Laid (b a words : List ℕ) (count : ℕ) (at : Layout) (room : Room) : Type 0 where
  pub usable : Usable b a at
  pub fits : Fits at room
  pub linked : Outgoing b a at.sizes room.links
  pub recorded : Recorded b a words count
  pub lows : (x : ℕ) → x < K b a → get_or a (room.lows + x) 0 ≡ low_on words count x

-- .. and the start nodes in the queue
pub record Started (b a words : List ℕ) (count : ℕ) (at : Layout) (room : Room) (joined : ℕ) : Type 0 where
  pub laid : Laid b a words count at room
  pub queued : Queued a room.queue at.sizes.nodes joined
  pub starts : part a room.queue joined ≡ join_all [] (start_nodes b a (records_in words count))

-- the walk's answer, after turns that wrote to the queue and its marks alone
pub record Ended (b a words : List ℕ) (count : ℕ) (at : Layout) (room : Room) (r : Verdict) (m : List ℕ) : Type 0 where
  pub said : verdict_said r ≡ walk b a (records_in words count)
  pub kept : Queueing at room a m

-- the walk's answer, and the tables as they stood
pub record Walks (b a words : List ℕ) (count : ℕ) (at : Layout) (r : Verdict) (m : List ℕ) : Type 0 where
  pub said : verdict_said r ≡ walk b a (records_in words count)
  pub kept : Scratched at a m
