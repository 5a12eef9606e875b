-- A node's links among the links by output port: how many they are, and the link that stands at each place.
-- Rests on neighbours' Rows and NodeLinks.
use Prim.Native.Nat.{ℕ, suc, ◌+◌, ◌-◌, ◌<◌}
use native.Mathlib.Omega.{arith}
use mathlib.Core.Path.{◌≡◌, sym, ap, ◌∙◌}
use mathlib.Core.List.{List, map}
use lib.ListN.{length, get_or, length-map}
use Rattle.lists.specs.Lists.{from, upto}
use Rattle.lists.proofs.Sections.{get_d_part}
use Rattle.lists.proofs.Upto.{length_from}
use Rattle.paper.specs.Map.{N, L, P, first_port, source_port, out_links}
use Rattle.order_theory.specs.Sound.{Sound}
use Rattle.neighbours.specs.Linked.{out_start}
use Rattle.counting_sort.specs.Sorted.{below, sorted_by}
use Rattle.neighbours.proofs.Rows.{link_by, start_is, row}
use Rattle.neighbours.proofs.NodeLinks.{out-part}

module _ {b : List ℕ} (s : Sound b) {v : ℕ} (h : v < N b) where
  places : List ℕ
  places = from (out_start b v) (out_start b (suc v) - out_start b v)

  links_are : map (link_by b (source_port b)) places ≡ out_links b v
  unfolding out_start places
  links_are = row b (source_port b) v h ∙ out-part s v h

  many : length places ≡ out_start b (suc v) - out_start b v
  unfolding places
  many = length_from (out_start b v) (out_start b (suc v) - out_start b v)

  pub out-count : length (out_links b v) ≡ out_start b (suc v) - out_start b v
  out-count = sym (ap length links_are) ∙ length-map places (link_by b (source_port b)) ∙ many

  pub out-is : (i : ℕ) → i < out_start b (suc v) - out_start b v → link_by b (source_port b) (out_start b v + i) ≡ get_or (out_links b v) i 0
  unfolding out_start
  out-is i l =
      let keys : List ℕ = map (source_port b) (upto (L b)) in
      let low = start_is b (source_port b) v (omega arith) in
      let high = start_is b (source_port b) (suc v) (omega arith) in
      ap (λ (x : ℕ). get_or (sorted_by keys (P b)) (x + i) 0) low
      ∙ sym (get_d_part (sorted_by keys (P b)) (below keys (first_port b v)) (below keys (first_port b (suc v)) - below keys (first_port b v)) i 0
      (omega (arith, low, high, l)))
      ∙ ap (λ (xs : List ℕ). get_or xs i 0) (out-part s v h)
