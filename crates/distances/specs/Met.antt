-- The nodes that were met, from the queue's start on, then a mark for each of its n nodes, then the distance of each that is marked.
-- Rests on walk_theory's Joined and tables' Within.
use Rattle.std.specs.Prelude.{ℕ, ◌+◌, ◌≤◌, ◌<◌, ◌≡◌, Bool, ◌&&◌, ◌||◌, not, List, length, get_or, eqb}
use Rattle.lists.specs.Lists.{one, keep, member}
use Rattle.lists.proofs.Sections.{part}
use Rattle.walk_theory.specs.Joined.{Joined}
use Rattle.walk_theory.specs.Marked.{join_all}
use Rattle.tables.specs.Within.{Within}
use Rattle.distances.specs.declared.queue.Queue.{Queue}

-- node v is marked, with distance d
unfoldable pub tells : List ℕ → Queue → ℕ → ℕ → Bool
tells a queue v d = not (eqb (get_or a (queue.start + queue.nodes + v) 0) 0) && eqb (get_or a (queue.start + queue.nodes + queue.nodes + v) 0) d

-- those of some nodes that are marked with distance 0: the listed ones
unfoldable pub listed_of : List ℕ → Queue → List ℕ → List ℕ
listed_of a queue = keep (λ v. tells a queue v 0)

-- room for n nodes, their marks and their distances
abbrev pub met_size : ℕ → ℕ
met_size n = n + n + n

-- `joined` nodes were met, each once, and the marks tell which
pub record Met (a : List ℕ) (queue : Queue) (joined : ℕ) : Type 0 where
  pub fits : queue.start + met_size queue.nodes ≤ length a
  pub small : queue.nodes ≤ 512
  pub few : joined ≤ queue.nodes
  pub nodes : Joined queue.nodes (part a queue.start joined)
  pub marks : (u : ℕ) → u < queue.nodes → get_or a (queue.start + queue.nodes + u) 0 ≡ one (member u (part a queue.start joined))

-- a list of `count` nodes stands at the queue's start, each once, before anything is marked
pub record Listed (a : List ℕ) (queue : Queue) (count : ℕ) : Type 0 where
  pub fits : queue.start + met_size queue.nodes ≤ length a
  pub small : queue.nodes ≤ 512
  pub few : count ≤ queue.nodes
  pub nodes : Joined queue.nodes (part a queue.start count)

-- the list is marked, and every distance is 0
pub record ListMarked (a : List ℕ) (queue : Queue) (count : ℕ) (m : List ℕ) : Type 0 where
  pub met : Met m queue count
  pub list : part m queue.start count ≡ part a queue.start count
  pub near : (u : ℕ) → u < queue.nodes → get_or m (queue.start + queue.nodes + queue.nodes + u) 0 ≡ 0
  pub kept : Within queue.start (met_size queue.nodes) a m

-- some nodes joined at distance d, those that were not met before: from a to m, from `joined` to `grown`
pub record Joins (a : List ℕ) (queue : Queue) (joined : ℕ) (nodes : List ℕ) (d grown : ℕ) (m : List ℕ) : Type 0 where
  pub met : Met m queue grown
  pub whole : part m queue.start grown ≡ join_all (part a queue.start joined) nodes
  pub told : (u e : ℕ) → u < queue.nodes
      → tells m queue u e ≡ (tells a queue u e || ((member u nodes && not (member u (part a queue.start joined))) && eqb d e))
  pub kept : Within queue.start (met_size queue.nodes) a m
