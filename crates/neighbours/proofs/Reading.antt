-- What each function reads from the links that stand in the area.
-- Rests on Rows and lists.Sections.
use Prim.Native.Nat.{ℕ, ◌+◌, ◌≤◌, ◌<◌}
use native.Mathlib.Omega.{arith}
use mathlib.Core.Path.{◌≡◌, sym, ap, ◌∙◌}
use mathlib.Core.List.{List, map}
use lib.ListN.{length, get_or, take, drop}
use Rattle.lists.specs.Lists.{upto}
use Rattle.lists.proofs.Sections.{get_d_part}
use Rattle.lists.proofs.Upto.{get_or-table}
use Rattle.paper.specs.Map.{L, P, first_port, link_from, link_to}
use Rattle.order_theory.proofs.Ports.{ports-below}
use Rattle.counting_sort.specs.Sorted.{starts_by}
use Rattle.stepmap.specs.Formed.{HasLink}
use Rattle.stepmap.specs.declared.read.Sizes.{Sizes}
use Rattle.stepmap.proofs.Known.{has-link}
use Rattle.neighbours.specs.declared.Listing.{Listing}
use Rattle.neighbours.specs.Linked.{Linked, Outgoing, Incoming, out_start, out_target, in_start, in_source}
use Rattle.neighbours.proofs.Rows.{start_by, link_by, link-known}

-- a word of a section that stands
word : (a : List ℕ) (at many : ℕ) {xs : List ℕ} → take many (drop at a) ≡ xs → (i : ℕ) → i < many → get_or a (at + i) 0 ≡ get_or xs i 0
word a at many stands i h = sym (get_d_part a at many i 0 h) ∙ ap (λ (xs : List ℕ). get_or xs i 0) stands

module _ {b a : List ℕ} {s : Sizes} {port : ℕ → ℕ} {at : Listing} (linked : Linked b a s port at) where
  module _ {v : ℕ} (h : v ≤ s.nodes) {first : ℕ} (read : first ≡ get_or a (at.firsts + v) 0) where
    first-is : first ≡ first_port b v
    first-is =
        read ∙ word a at.firsts (s.nodes + 1) linked.firsts_stand v (omega arith)
        ∙ get_or-table (first_port b) (s.nodes + 1) v 0 (omega arith)

    port-known : first ≤ s.ports
    port-known =
        omega (arith, first-is, ports-below b v (omega (arith, linked.read.nodes)), linked.read.ports)

    pub start-inside : at.starts + first < length a
    start-inside = omega (arith, port-known, linked)

    pub start-read : get_or a (at.starts + first) 0 ≡ start_by b port v
    start-read =
        word a at.starts (s.ports + 1) linked.starts_stand first (omega (arith, port-known))
        ∙ ap (λ (q : ℕ). get_or (starts_by (map port (upto (L b))) (P b)) q 0) first-is

  module _ {i : ℕ} (h : i < s.links) {k : ℕ} (read : k ≡ get_or a (at.sorted + i) 0) where
    pub link-read : k ≡ link_by b port i
    link-read = read ∙ word a at.sorted s.links linked.sorted_stand i h

    pub has_listed : HasLink b s.nodes k
    has_listed = has-link linked.read (omega (arith, link-read, link-known b port i (omega (arith, linked.read.links)), linked.read.links))

-- ---- as the node that a link leads to, or comes from

module _ {b a : List ℕ} {s : Sizes} {at : Listing} where
  pub out-start : Outgoing b a s at → {v : ℕ} → v ≤ s.nodes → {first : ℕ} → first ≡ get_or a (at.firsts + v) 0 → get_or a (at.starts + first) 0 ≡ out_start b v
  unfolding out_start
  out-start = start-read

  pub in_start_lem : Incoming b a s at → {v : ℕ} → v ≤ s.nodes → {first : ℕ} → first ≡ get_or a (at.firsts + v) 0 → get_or a (at.starts + first) 0 ≡ in_start b v
  unfolding in_start
  in_start_lem = start-read

  pub target_is : Outgoing b a s at → {i k : ℕ} → i < s.links → k ≡ get_or a (at.sorted + i) 0 → link_to b k ≡ out_target b i
  unfolding out_target
  target_is linked h read = ap (link_to b) (link-read linked h read)

  pub source_is : Incoming b a s at → {i k : ℕ} → i < s.links → k ≡ get_or a (at.sorted + i) 0 → link_from b k ≡ in_source b i
  unfolding in_source
  source_is linked h read = ap (link_from b) (link-read linked h read)
