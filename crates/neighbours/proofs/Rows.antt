-- The links by port, for either end of them: where a node's links start, and which stand from there on.
-- Rests on order_theory.Ports and the counting sort's laws.
use Prim.Native.Nat.{ℕ, zero, suc, ◌+◌, ◌-◌, ◌≤◌, ◌<◌}
use native.Mathlib.Decide.{dec_lt}
use native.Mathlib.Omega.{arith}
use mathlib.Core.Path.{◌≡◌, refl, sym, ap, ap₂, ◌∙◌}
use mathlib.Core.List.{List, ◌∷◌, map}
use lib.ListN.{length, get_or, get_or-eq_default}
use lib.Seq.{drop-cons}
use Rattle.lists.specs.Lists.{from, upto}
use Rattle.lists.specs.Bounds.{Below}
use Rattle.lists.proofs.Sections.{part}
use Rattle.lists.proofs.Upto.{length-table, get_or-table}
use Rattle.lists.proofs.Count.{times-keep_past, times_nowhere}
use Rattle.lists.proofs.Places.{place-known}
use Rattle.paper.specs.Map.{N, L, P, first_port}
use Rattle.order_theory.proofs.Ports.{ports-below}
use Rattle.counting_sort.specs.Sorted.{below, starts_by, places_of, sorted_by}
use Rattle.counting_sort.proofs.Counting.{below_le, below_length}
use Rattle.counting_sort.proofs.Parts.{before_key}

-- a part of a list, read word by word
row-part : (xs : List ℕ) (at k : ℕ) → at + k ≤ length xs → map (λ i. get_or xs i 0) (from at k) ≡ part xs at k
row-part xs at zero h = refl
row-part xs at (suc k) h =
    ap (λ (ys : List ℕ). get_or xs at 0 ∷ ys) (row-part xs (suc at) k (omega arith))
    ∙ sym (rw (drop-cons xs at 0 (omega arith)))

module _ (b : List ℕ) (f : ℕ → ℕ) where
  abbrev keys : List ℕ
  keys = map f (upto (L b))

  -- where the links of node v start, and the link that stands i-th
  abbrev pub start_by : ℕ → ℕ
  start_by v = get_or (starts_by keys (P b)) (first_port b v) 0

  abbrev pub link_by : ℕ → ℕ
  link_by i = get_or (sorted_by keys (P b)) i 0

  pub start_is : (v : ℕ) → v ≤ N b → start_by v ≡ below keys (first_port b v)
  unfolding starts_by
  start_is v h = get_or-table (below keys) (suc (P b)) (first_port b v) 0 (omega (arith, ports-below b v h))

  pub start_fits : (v : ℕ) → v ≤ N b → start_by v ≤ L b
  start_fits v h = omega (arith, start_is v h, below_length keys (first_port b v), length-table f (L b))

  pub start-rises : (v : ℕ) → v < N b → start_by v ≤ start_by (suc v)
  unfolding first_port
  start-rises v h =
      omega (
        arith,
        start_is v (omega arith),
        start_is (suc v) (omega arith),
        below_le keys (first_port b v) (first_port b (suc v)) (omega arith),
      )

  sorted_long : length (sorted_by keys (P b)) ≡ below keys (P b)
  unfolding sorted_by
  sorted_long = before_key keys (P b)

  all_known : Below (L b) (sorted_by keys (P b))
  unfolding sorted_by places_of
  all_known k h =
      times_nowhere (places_of keys) k (λ q. times-keep_past _ k (length keys) (omega (arith, length-table f (L b)))) (upto (P b))

  -- past the last one the reading says 0
  pub link-known : (i : ℕ) → i < L b → link_by i < L b
  link-known i h = go (dec_lt i (length (sorted_by keys (P b))))
    where
      go : Dec (i < length (sorted_by keys (P b))) → link_by i < L b
      go (yes g) = place-known (L b) (sorted_by keys (P b)) i all_known g
      go (no g) = omega (arith, get_or-eq_default (sorted_by keys (P b)) 0 {n = i} (omega arith))

  -- the links of a node, in a row
  pub row : (v : ℕ) → v < N b → map link_by (from (start_by v) (start_by (suc v) - start_by v))
      ≡ part (sorted_by keys (P b)) (below keys (first_port b v)) (below keys (first_port b (suc v)) - below keys (first_port b v))
  row v h =
      ap₂ (λ (at end : ℕ). map link_by (from at (end - at))) (start_is v (omega arith)) (start_is (suc v) (omega arith))
      ∙ row-part (sorted_by keys (P b)) (below keys (first_port b v)) (below keys (first_port b (suc v)) - below keys (first_port b v))
      (omega (
        arith,
        start_is v (omega arith),
        start_is (suc v) (omega arith),
        start-rises v h,
        sorted_long,
        below_le keys (first_port b (suc v)) (P b) (ports-below b (suc v) (omega arith)),
      ))
