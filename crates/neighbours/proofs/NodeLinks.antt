-- The links by port list exactly 01's "by port, then listing order": a node's part of them is its outgoing, or incoming, links.
-- Rests on order_theory.Ports and the counting sort's definitions.
use Prim.Native.Nat.{ℕ, suc, ◌+◌, ◌-◌, ◌<◌}
use native.Mathlib.Omega.{arith}
use native.Mathlib.Nat.{add-zero}
use mathlib.Core.Path.{◌≡◌, sym, ap, ap₂, ◌∙◌}
use mathlib.Core.Bool.{false}
use mathlib.Core.List.{List, [], ◌++◌, map, flat_map, append-nil}
use lib.ListN.{get_or}
use lib.Dec.{eqb}
use Rattle.lists.specs.Lists.{from, upto, keep}
use Rattle.lists.proofs.Sections.{part}
use Rattle.lists.proofs.Upto.{keep-none, flat_map-from, flat_map-none, from-add, length-table, get_or-table, flat_map-append}
use Rattle.lists.proofs.Count.{keep-upto}
use Rattle.paper.specs.Map.{N, L, P, ins, outs, first_port, input, output, inputs, outputs, source_port, target_port, port_links, in_links, out_links}
use Rattle.order_theory.specs.Sound.{Sound}
use Rattle.order_theory.proofs.Ports.{ports-end, source-input, target-output, links_at_output, links_at_input}
use Rattle.counting_sort.specs.Sorted.{below, places_of, sorted_by}
use Rattle.counting_sort.proofs.Parts.{keys-part}

-- ---- what stands at a port, for the keys of a sound map

module _ {b : List ℕ} (s : Sound b) where
  -- the places of a port among the keys, by the function that gave them
  by_key : (f : ℕ → ℕ) (q : ℕ) → places_of (map f (upto (L b))) q ≡ keep (λ k. eqb (f k) q) (upto (L b))
  unfolding places_of
  by_key f q =
      ap (λ (n : ℕ). keep (λ k. eqb (get_or (map f (upto (L b))) k 0) q) (upto n)) (length-table f (L b))
      ∙ keep-upto (λ k. eqb (get_or (map f (upto (L b))) k 0) q) (λ k. eqb (f k) q) (L b)
      (λ k h. ap (λ (x : ℕ). eqb x q) (get_or-table f (L b) k 0 h))

  nothing : (f : ℕ → ℕ) (q : ℕ) → ((k : ℕ) → k < L b → eqb (f k) q ≡ false) → places_of (map f (upto (L b))) q ≡ []
  nothing f q h = by_key f q ∙ keep-upto (λ k. eqb (f k) q) (λ k. false) (L b) h ∙ keep-none (upto (L b))

  module _ (v : ℕ) where
    at_output : (o : ℕ) → o < outs b v → places_of (map (source_port b) (upto (L b))) (output b v o) ≡ port_links b (output b v o)
    at_output o h = by_key (source_port b) (output b v o) ∙ sym (links_at_output s v o h)

    at_input : (i : ℕ) → i < ins b v → places_of (map (target_port b) (upto (L b))) (input b v i) ≡ port_links b (input b v i)
    at_input i h = by_key (target_port b) (input b v i) ∙ sym (links_at_input s v i h)

    no_source : (i : ℕ) → i < ins b v → places_of (map (source_port b) (upto (L b))) (input b v i) ≡ []
    no_source i h = nothing (source_port b) (input b v i) (λ k l. source-input s k l v i h)

    no_target : (o : ℕ) → o < outs b v → places_of (map (target_port b) (upto (L b))) (output b v o) ≡ []
    no_target o h = nothing (target_port b) (output b v o) (λ k l. target-output s k l v o h)

    -- ---- a node's ports are its inputs, then its outputs

    ports-made : (f : ℕ → List ℕ) → flat_map f (from (first_port b v) (ins b v + outs b v)) ≡ flat_map f (inputs b v) ++ flat_map f (outputs b v)
    unfolding inputs outputs input output
    ports-made f =
        ap (flat_map f) (from-add (first_port b v) (ins b v) (outs b v))
        ∙ flat_map-append f (from (first_port b v) (ins b v)) (from (first_port b v + ins b v) (outs b v))
        ∙ ap₂ (λ (m n : ℕ). flat_map f (from m (ins b v)) ++ flat_map f (from n (outs b v))) (sym (add-zero (first_port b v)))
        (sym (add-zero (first_port b v + ins b v)))

    offset_in : (i : ℕ) → input b v 0 + i ≡ input b v i
    unfolding input
    offset_in i = omega arith

    offset_out : (o : ℕ) → output b v 0 + o ≡ output b v o
    unfolding output
    offset_out o = omega arith

    -- the links at a node's ports: those that start at it stand at its outputs, those that end at it at its inputs
    source-links : flat_map (places_of (map (source_port b) (upto (L b)))) (from (first_port b v) (ins b v + outs b v)) ≡ out_links b v
    unfolding inputs outputs out_links
    source-links =
        ports-made places
        ∙ ap₂ (λ (x y : List ℕ). x ++ y)
        (flat_map-from places (λ q. []) (input b v 0) (ins b v) (λ i h. ap places (offset_in i) ∙ no_source i h)
        ∙ flat_map-none (input b v 0) (ins b v))
        (flat_map-from places (port_links b) (output b v 0) (outs b v)
        (λ o h. ap places (offset_out o) ∙ at_output o h ∙ ap (port_links b) (sym (offset_out o))))
      where
        places : ℕ → List ℕ
        places = places_of (map (source_port b) (upto (L b)))

    target-links : flat_map (places_of (map (target_port b) (upto (L b)))) (from (first_port b v) (ins b v + outs b v)) ≡ in_links b v
    unfolding inputs outputs in_links
    target-links =
        ports-made places
        ∙ ap₂ (λ (x y : List ℕ). x ++ y)
        (flat_map-from places (port_links b) (input b v 0) (ins b v)
        (λ i h. ap places (offset_in i) ∙ at_input i h ∙ ap (port_links b) (sym (offset_in i))))
        (flat_map-from places (λ q. []) (output b v 0) (outs b v) (λ o h. ap places (offset_out o) ∙ no_target o h)
        ∙ flat_map-none (output b v 0) (outs b v))
        ∙ append-nil (flat_map (port_links b) (inputs b v))
      where
        places : ℕ → List ℕ
        places = places_of (map (target_port b) (upto (L b)))

    -- ---- a node's part of the links by port

    module _ (h : v < N b) where
      node-part : (f : ℕ → ℕ) (links : List ℕ)
          → flat_map (places_of (map f (upto (L b)))) (from (first_port b v) (ins b v + outs b v)) ≡ links
          → part (sorted_by (map f (upto (L b))) (P b)) (below (map f (upto (L b))) (first_port b v))
          (below (map f (upto (L b))) (first_port b (suc v)) - below (map f (upto (L b))) (first_port b v))
          ≡ links
      unfolding first_port P
      node-part f links e = keys-part (map f (upto (L b))) (P b) (first_port b v) (ins b v + outs b v) (ports-end b v (N b) h) ∙ e

      pub out-part : part (sorted_by (map (source_port b) (upto (L b))) (P b)) (below (map (source_port b) (upto (L b))) (first_port b v))
          (below (map (source_port b) (upto (L b))) (first_port b (suc v)) - below (map (source_port b) (upto (L b))) (first_port b v))
          ≡ out_links b v
      out-part = node-part (source_port b) (out_links b v) source-links

      pub in_part : part (sorted_by (map (target_port b) (upto (L b))) (P b)) (below (map (target_port b) (upto (L b))) (first_port b v))
          (below (map (target_port b) (upto (L b))) (first_port b (suc v)) - below (map (target_port b) (upto (L b))) (first_port b v))
          ≡ in_links b v
      in_part = node-part (target_port b) (in_links b v) target-links
