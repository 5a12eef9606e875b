-- A node's links among the links by port: where they start, how many there are, and that the lists of lines fit their section.
-- Rests on neighbours.NodeLinks and on the sizes of the tables (lines_theory).
use Prim.Native.Nat.{ℕ, suc, ◌+◌, ◌-◌, ◌*◌, ◌≤◌, ◌<◌}
use native.Mathlib.Omega.{arith}
use mathlib.Core.Path.{◌≡◌, sym, ap, ◌∙◌}
use mathlib.Core.List.{List, map}
use lib.ListN.{length, get_or}
use Rattle.lists.specs.Lists.{upto}
use Rattle.lists.proofs.Sections.{part, length_part, get_d_part}
use Rattle.lists.proofs.Upto.{length-table, get_or-table}
use Rattle.paper.specs.Map.{N, L, P, first_port, source_port, target_port, in_links, out_links}
use Rattle.order_theory.specs.Sound.{Sound}
use Rattle.order_theory.proofs.Refusals.{sound}
use Rattle.counting_sort.specs.Sorted.{below, starts_by, sorted_by}
use Rattle.counting_sort.proofs.Counting.{below_le, below_length, below_all}
use Rattle.counting_sort.proofs.Parts.{before_key}
use Rattle.neighbours.proofs.NodeLinks.{out-part, in_part}
use Rattle.neighbours.proofs.Writing.{source-below, target_below}
use Rattle.lines_theory.proofs.Prepared.{tables-sized}
use Rattle.stepmap.specs.Formed.{ReadWell}
use Rattle.tables.specs.declared.Layout.{Layout}
use Rattle.line_tables.specs.declared.room.Room.{Room}
use Rattle.line_tables.specs.Layout.{out_keys, in_keys, entries}
use Rattle.line_tables.specs.Spread.{Spread}

-- ---- between two ports

-- how long the sorted links and their starts are, by the ports f
module _ (f : ℕ → ℕ) (l p : ℕ) (low : (k : ℕ) → k < l → f k < p) where
  pub long-starts : length (starts_by (map f (upto l)) p) ≡ p + 1
  unfolding starts_by
  long-starts = length-table (below (map f (upto l))) (suc p) ∙ omega arith

  pub long_sorted : length (sorted_by (map f (upto l)) p) ≡ l
  unfolding sorted_by
  long_sorted =
      before_key (map f (upto l)) p
      ∙ below_all (map f (upto l)) p
      (λ k h. let lt : k < l = omega (arith, length-table f l) in omega (arith, get_or-table f l k 0 lt, low k lt))
      ∙ length-table f l

-- a node's links: from the links at lower ports on
module _ (b : List ℕ) (f : ℕ → ℕ) (low : (k : ℕ) → k < L b → f k < P b) where
  span : (v : ℕ) (links : List ℕ)
      → part (sorted_by (map f (upto (L b))) (P b)) (below (map f (upto (L b))) (first_port b v))
      (below (map f (upto (L b))) (first_port b (suc v)) - below (map f (upto (L b))) (first_port b v))
      ≡ links
      → below (map f (upto (L b))) (first_port b v) + length links ≡ below (map f (upto (L b))) (first_port b (suc v))
  unfolding first_port
  span v links e =
      let keys = map f (upto (L b)) in
      let rises = below_le keys (first_port b v) (first_port b (suc v)) (omega arith) in
      let fits = below_length keys (first_port b (suc v)) in
      let long =
      sym (ap length e)
      ∙ length_part (sorted_by keys (P b)) (below keys (first_port b v)) (below keys (first_port b (suc v)) - below keys (first_port b v))
      (omega (arith, rises, fits, long_sorted f (L b) (P b) low, length-table f (L b))) in
      omega (arith, rises, long)

entry : (xs : List ℕ) (from many : ℕ) (links : List ℕ) → part xs from many ≡ links → (i : ℕ) → i < many → get_or xs (from + i) 0 ≡ get_or links i 0
entry xs from many links e i h = sym (get_d_part xs from many i 0 h) ∙ ap (λ (m : List ℕ). get_or m i 0) e

module _ {b : List ℕ} {n l p : ℕ} (read : ReadWell b n l p) (is-sound : Sound b) where
  source-low : (k : ℕ) → k < L b → source_port b k < P b
  source-low k h = omega (arith, source-below read is-sound {k = k} (omega (arith, read.links)), read.ports)

  target-low : (k : ℕ) → k < L b → target_port b k < P b
  target-low k h = omega (arith, target_below read is-sound {k = k} (omega (arith, read.links)), read.ports)

  module _ (v : ℕ) (h : v < n) where
    is-node : v < N b
    is-node = omega (arith, read.nodes)

    pub out-count : below (out_keys b) (first_port b v) + length (out_links b v) ≡ below (out_keys b) (first_port b (suc v))
    out-count = span b (source_port b) source-low v (out_links b v) (out-part is-sound v is-node)

    pub in_count : below (in_keys b) (first_port b v) + length (in_links b v) ≡ below (in_keys b) (first_port b (suc v))
    in_count = span b (target_port b) target-low v (in_links b v) (in_part is-sound v is-node)

    -- a node's links stand one after the other among all links by port
    pub out-entry : (i : ℕ) → i < length (out_links b v) → get_or (sorted_by (out_keys b) (P b)) (below (out_keys b) (first_port b v) + i) 0 ≡ get_or (out_links b v) i 0
    out-entry i l = entry (sorted_by (out_keys b) (P b)) (below (out_keys b) (first_port b v)) (below (out_keys b) (first_port b (suc v)) - below (out_keys b) (first_port b v)) (out_links b v) (out-part is-sound v is-node) i (omega (arith, out-count))

    pub in_entry : (i : ℕ) → i < length (in_links b v) → get_or (sorted_by (in_keys b) (P b)) (below (in_keys b) (first_port b v) + i) 0 ≡ get_or (in_links b v) i 0
    in_entry i l = entry (sorted_by (in_keys b) (P b)) (below (in_keys b) (first_port b v)) (below (in_keys b) (first_port b (suc v)) - below (in_keys b) (first_port b v)) (in_links b v) (in_part is-sound v is-node) i (omega (arith, in_count))

    pub out-fits : below (out_keys b) (first_port b v) + length (out_links b v) ≤ l
    out-fits =
        omega
        (arith, out-count, below_length (out_keys b) (first_port b (suc v)), length-table (source_port b) (L b), read.links)

    pub in_fits : below (in_keys b) (first_port b v) + length (in_links b v) ≤ l
    in_fits =
        omega
        (arith, in_count, below_length (in_keys b) (first_port b (suc v)), length-table (target_port b) (L b), read.links)

module _ {b a : List ℕ} {at : Layout} {room : Room} (s : Spread b a at room) where
  pub is-sound : Sound b
  is-sound = sound b s.ready.links

  pub out-span : (v : ℕ) → v < at.sizes.nodes → below (out_keys b) (first_port b v) + length (out_links b v) ≤ at.sizes.links
  out-span v h = out-fits s.ready.read is-sound v h

  pub in_span : (v : ℕ) → v < at.sizes.nodes → below (in_keys b) (first_port b v) + length (in_links b v) ≤ at.sizes.links
  in_span v h = in_fits s.ready.read is-sound v h

  pub entries_fit : entries b ≤ at.sizes.nodes + 2 * at.sizes.links
  entries_fit =
      omega (arith, (tables-sized b s.ready.links s.cycle).few, s.ready.read.nodes, s.ready.read.links)
