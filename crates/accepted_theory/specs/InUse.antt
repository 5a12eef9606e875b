-- Two areas that hold the same tables: the words in use are the same, and nothing is said of unused words, scratch and words past W.
-- Rests on paper's Area.
use Rattle.std.specs.Prelude.{ℕ, ◌+◌, ◌≤◌, ◌<◌, ◌≡◌, List}
use Rattle.paper.specs.Map.{N, L}
use Rattle.paper.specs.Area.{Section, word_of, K, position}

pub record SameInUse (b a c : List ℕ) : Type 0 where
  pub count : K b a ≡ K b c
  pub order : (i : ℕ) → i < N b → word_of b a Section.order i ≡ word_of b c Section.order i
  pub positions : (v : ℕ) → v < N b → position b a v ≡ position b c v
  pub node_starts : (i : ℕ) → i ≤ N b → word_of b a Section.node_starts i ≡ word_of b c Section.node_starts i
  pub line_starts : (i : ℕ) → i ≤ K b a → word_of b a Section.line_starts i ≡ word_of b c Section.line_starts i
  -- "Entries in use: L+K in each list."
  pub lines : (i : ℕ) → i < L b + K b a → word_of b a Section.lines_of_nodes i ≡ word_of b c Section.lines_of_nodes i
  pub nodes : (i : ℕ) → i < L b + K b a → word_of b a Section.nodes_of_lines i ≡ word_of b c Section.nodes_of_lines i
