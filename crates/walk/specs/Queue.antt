-- The queue and its marks in the scratch: room for n nodes from `queue` on, and after it a mark for each node.
-- Rests on walk_theory's Marked and Joined, and tables' Within.
use Rattle.std.specs.Prelude.{ℕ, ◌+◌, ◌≤◌, ◌<◌, ◌≡◌, List, length, get_or}
use Rattle.lists.specs.Lists.{one, member}
use Rattle.lists.proofs.Sections.{part}
use Rattle.walk_theory.specs.Marked.{join_all}
use Rattle.walk_theory.specs.Joined.{Joined}
use Rattle.tables.specs.Within.{Within}

-- `joined` nodes have joined, each once, and the marks tell which
pub record Queued (a : List ℕ) (queue n joined : ℕ) : Type 0 where
  pub fits : queue + n + n ≤ length a
  pub small : n ≤ 512
  pub few : joined ≤ n
  pub nodes : Joined n (part a queue joined)
  pub marks : (u : ℕ) → u < n → get_or a (queue + n + u) 0 ≡ one (member u (part a queue joined))

-- some nodes joined, those who had not joined before: from a to m, from `joined` to `grown`
pub record Grown (a : List ℕ) (queue n joined : ℕ) (nodes : List ℕ) (grown : ℕ) (m : List ℕ) : Type 0 where
  pub queued : Queued m queue n grown
  pub whole : part m queue grown ≡ join_all (part a queue joined) nodes
  pub kept : Within queue (n + n) a m
