-- The test `accepted` says exactly what `Accepted` says, sentence by sentence.
-- Rests on lists.Tests, which joins each kind of test to its proposition once.
use Prim.Native.Nat.{ℕ, suc, ◌+◌}
use mathlib.Core.List.{List, map}
use Rattle.lists.specs.Lists.{one, member, times}
use Rattle.lists.specs.Found.{Found, absent, at}
use Rattle.lists.proofs.Tests.{Says, itself, reworded, ◌and◌, eq_says, lt_says, le_says, every-says, rising-says}
use Rattle.paper.specs.Map.{N, L, link_from, link_to}
use Rattle.paper.specs.Order.{place_in}
use Rattle.paper.specs.Area.{Section, word_of, K, order_of, position, lines_of, nodes_of}
use Rattle.paper.specs.Accepted.{
  links_between,
  lines_between,
  GoesBefore,
  goes_before,
  Starts,
  starts_well,
  Accepted,
  accepted,
}

before-says : (x y : Found) → Says (goes_before x y) (GoesBefore x y)
before-says absent y = itself _
before-says (at i) absent = itself _
before-says (at i) (at j) = lt_says i j

pub starts_say : (start : ℕ → ℕ) (n end : ℕ) → Says (starts_well start n end) (Starts start n end)
unfolding starts_well
starts_say start n end =
    reworded (λ p. record { begins = p.0.0; rises = p.0.1; ends = p.1 }) (λ s. ((s.begins, s.rises), s.ends))
    (eq_says (start 0) 0 and every-says (λ i. lt_says (start i) (start (suc i))) n and eq_says (start n) end)

pub accepted-says : (b a : List ℕ) → Says (accepted b a) (Accepted b a)
unfolding accepted
accepted-says b a =
    reworded
    (λ p. record {
      few = p.0.0.0.0.0.0.0.0.0;
      each_once = p.0.0.0.0.0.0.0.0.1;
      node_starts = p.0.0.0.0.0.0.0.1;
      line_starts = p.0.0.0.0.0.0.1;
      lines_known = p.0.0.0.0.0.1;
      nodes_known = p.0.0.0.0.1;
      rises = p.0.0.0.1;
      listed = p.0.0.1;
      adjacent = p.0.1;
      forward = p.1;
    })
    (λ c. ((((((((((c.few, c.each_once), c.node_starts), c.line_starts), c.lines_known), c.nodes_known), c.rises), c.listed), c.adjacent), c.forward)))
    (le_says (K b a) (L b + N b)
    and every-says (λ v. eq_says (times v (order_of b a)) 1) (N b)
    and starts_say (word_of b a Section.node_starts) (N b) (L b + K b a)
    and starts_say (word_of b a Section.line_starts) (K b a) (L b + K b a)
    and every-says (λ i. lt_says (word_of b a Section.lines_of_nodes i) (K b a)) (L b + K b a)
    and every-says (λ i. lt_says (word_of b a Section.nodes_of_lines i) (N b)) (L b + K b a)
    and every-says (λ l. rising-says (map (position b a) (nodes_of b a l))) (K b a)
    and every-says (λ v. every-says (λ l. eq_says (times l (lines_of b a v)) (one (member v (nodes_of b a l)))) (K b a)) (N b)
    and every-says (λ u. every-says (λ v. eq_says (links_between b u v) (lines_between b a u v)) (N b)) (N b)
    and every-says (λ k. before-says (place_in (order_of b a) (link_from b k)) (place_in (order_of b a) (link_to b k))) (L b))
