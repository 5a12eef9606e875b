-- A step map whose links all run between known nodes and ports (no refusal 4): the premise of the theorems on the order.
-- Rests on paper.Map.
use Rattle.std.specs.Prelude.{ℕ, ◌<◌, List}
use Rattle.paper.specs.Map.{N, L, ins, outs, link_from, link_out, link_to, link_in}

pub record Sound (b : List ℕ) : Type 0 where
  pub source : (k : ℕ) → k < L b → link_from b k < N b
  pub outlet : (k : ℕ) → k < L b → link_out b k < outs b (link_from b k)
  pub target : (k : ℕ) → k < L b → link_to b k < N b
  pub inlet : (k : ℕ) → k < L b → link_in b k < ins b (link_to b k)
