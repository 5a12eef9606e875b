-- What holds of the nodes that have joined: each once, and known, so that a queue of N words has room for them.
-- Rests on lists.
use Rattle.std.specs.Prelude.{ℕ, ◌≤◌, List}
use Rattle.lists.specs.Lists.{times}
use Rattle.lists.specs.Bounds.{Below}

pub record Joined (n : ℕ) (joined : List ℕ) : Type 0 where
  pub once : (v : ℕ) → times v joined ≤ 1
  pub known : Below n joined
