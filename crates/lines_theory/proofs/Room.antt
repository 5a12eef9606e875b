-- There is room for the lines at every turn: no more lines than links and nodes, no more entries than links and lines.
-- Rests on Frontier.
use Prim.Native.Nat.{ℕ, ◌+◌, ◌≤◌}
use native.Mathlib.Omega.{arith}
use mathlib.Core.List.{List}
use lib.ListN.{length, take, length-take}
use Rattle.lists.specs.Lists.{times}
use Rattle.lists.proofs.Count.{times-take}
use Rattle.paper.specs.Map.{N, L, link_from, link_to}
use Rattle.paper.specs.Order.{order}
use Rattle.paper.specs.Lines.{frontier_after}
use Rattle.order_theory.specs.Sound.{Sound}
use Rattle.order_theory.proofs.Order.{ordered-times, ordered-room}
use Rattle.lists.specs.Weight.{total}
use Rattle.lists.proofs.Weight.{weight-few}
use Rattle.lines_theory.proofs.Frontier.{lined}

module _ {b : List ℕ} (s : Sound b) (t : ℕ) (h : t ≤ length (order b)) where
  at_most-once : (v : ℕ) → times v (take t (order b)) ≤ 1
  at_most-once v = omega (arith, times-take v t (order b), ordered-times s v)

  pub count_room : (frontier_after b (order b) t).count ≤ L b + N b
  count_room =
      omega
      (arith, (lined s t h).few, length-take t (order b), ordered-room s, weight-few (link_from b) (take t (order b)) (L b) (λ k l. at_most-once (link_from b k)))

  pub entries-room : total (λ x. length x.lines) (frontier_after b (order b) t).placed ≤ L b + (frontier_after b (order b) t).count
  entries-room =
      omega
      (arith, (lined s t h).entries, weight-few (link_to b) (take t (order b)) (L b) (λ k l. at_most-once (link_to b k)))
