-- The links of a node, by counts: each link stands once among the outgoing links of its source, and once among the incoming ones of its target.
-- Rests on Ports.
use Prim.Native.Nat.{ℕ, ◌+◌, ◌-◌, ◌≤◌, ◌<◌}
use native.Mathlib.Decide.{ℕ_discrete, dec_lt}
use native.Mathlib.Omega.{arith}
use mathlib.Core.Path.{◌≡◌, sym, ap, ◌∙◌, subst}
use mathlib.Core.Bool.{Bool}
use mathlib.Core.List.{List}
use lib.ListN.{length, get_or, take}
use lib.Dec.{eqb}
use Rattle.lists.specs.Lists.{from, upto, one, keep, count, times}
use Rattle.paper.specs.Map.{
  L,
  ins,
  outs,
  link_from,
  link_out,
  link_to,
  link_in,
  first_port,
  input,
  output,
  inputs,
  outputs,
  source_port,
  target_port,
  port_links,
  in_links,
  out_links,
}
use Rattle.lists.specs.Bounds.{Below}
use Rattle.order_theory.specs.Sound.{Sound}
use Rattle.lists.proofs.Count.{
  one_eq,
  one_ne,
  one-small,
  one_eq_back,
  length-keep,
  times-keep-upto,
  times-keep_past,
  times-before,
  times-after,
  times_among,
  times_parts,
  times_nowhere,
}
use Rattle.lists.proofs.Compare.{same_length}
use Rattle.lists.proofs.Places.{times-place, place-known, place-new}
use Rattle.order_theory.proofs.Ports.{ports-end, links_at_output, links_at_input}

-- ---- the ports of a node among all ports

-- a number that stands before, in or behind a row as u stands before, at or behind v
row : (u v p q n : ℕ) → (u < v → p < q) → (u ≡ v → (q ≤ p) × (p < q + n)) → (v < u → q + n ≤ p) → times p (from q n) ≡ one (eqb u v)
row u v p q n before among behind = go (ℕ_discrete u v) (dec_lt u v)
  where
    go : Dec (u ≡ v) → Dec (u < v) → times p (from q n) ≡ one (eqb u v)
    go (yes e) d = omega (arith, times_among p q n (among e).0 (among e).1, one_eq u v e)
    go (no ne) (yes l) = omega (arith, times-before p q n (before l), one_ne u v ne)
    go (no ne) (no l) = omega (arith, times-after p q n (behind (omega arith)), one_ne u v ne)

module _ (b : List ℕ) (u v x : ℕ) where
  -- an output of u stands among the outputs of v exactly if u is v
  outputs_hold : x < outs b u → times (output b u x) (outputs b v) ≡ one (eqb u v)
  unfolding output outputs
  outputs_hold h =
      row u v (output b u x) (output b v 0) (outs b v) (λ l. omega (arith, ports-end b u v l))
      (λ e. omega (arith, ap (first_port b) e, ap (ins b) e, ap (outs b) e))
      (λ l. omega (arith, ports-end b v u l))

  -- .. and likewise an input
  inputs_hold : x < ins b u → times (input b u x) (inputs b v) ≡ one (eqb u v)
  unfolding input inputs
  inputs_hold h =
      row u v (input b u x) (input b v 0) (ins b v) (λ l. omega (arith, ports-end b u v l))
      (λ e. omega (arith, ap (first_port b) e, ap (ins b) e))
      (λ l. omega (arith, ports-end b v u l))

-- ---- the links of a node

-- a port has known links only
port-known : (b : List ℕ) (p : ℕ) → Below (L b) (port_links b p)
unfolding port_links
port-known b p k h = times-keep_past _ k (L b) h

pub out-known : (b : List ℕ) (v : ℕ) → Below (L b) (out_links b v)
unfolding out_links
out-known b v k h = times_nowhere (port_links b) k (λ p. port-known b p k h) (outputs b v)

pub in_known : (b : List ℕ) (v : ℕ) → Below (L b) (in_links b v)
unfolding in_links
in_known b v k h = times_nowhere (port_links b) k (λ p. port-known b p k h) (inputs b v)

module _ {b : List ℕ} (s : Sound b) (v k : ℕ) (h : k < L b) where
  output-times : (p : ℕ) → output b v 0 ≤ p → p < output b v 0 + outs b v → times k (port_links b p) ≡ one (eqb (source_port b k) p)
  unfolding output
  output-times p l u =
      subst (λ (q : ℕ). times k (port_links b q) ≡ one (eqb (source_port b k) q)) at
      (ap (times k) (links_at_output s v o (omega arith)) ∙ times-keep-upto (λ j. eqb (source_port b j) (output b v o)) k (L b) h)
    where
      o : ℕ
      o = p - output b v 0

      at : output b v o ≡ p
      at = omega arith

  input-times : (p : ℕ) → input b v 0 ≤ p → p < input b v 0 + ins b v → times k (port_links b p) ≡ one (eqb (target_port b k) p)
  unfolding input
  input-times p l u =
      subst (λ (q : ℕ). times k (port_links b q) ≡ one (eqb (target_port b k) q)) at
      (ap (times k) (links_at_input s v i (omega arith)) ∙ times-keep-upto (λ j. eqb (target_port b j) (input b v i)) k (L b) h)
    where
      i : ℕ
      i = p - input b v 0

      at : input b v i ≡ p
      at = omega arith

  -- a link stands once among the outgoing links of its source, and of no other node
  pub out-times : times k (out_links b v) ≡ one (eqb (link_from b k) v)
  unfolding out_links outputs source_port
  out-times =
      times_parts (port_links b) k (source_port b k) (output b v 0) (outs b v) output-times
      ∙ outputs_hold b (link_from b k) v (link_out b k) (s.outlet k h)

  -- .. and once among the incoming links of its target
  pub in_times : times k (in_links b v) ≡ one (eqb (link_to b k) v)
  unfolding in_links inputs target_port
  in_times =
      times_parts (port_links b) k (target_port b k) (input b v 0) (ins b v) input-times
      ∙ inputs_hold b (link_to b k) v (link_in b k) (s.inlet k h)

module _ {b : List ℕ} (s : Sound b) (v : ℕ) where
  -- a node has as many incoming links as there are links to it
  pub in_count : length (in_links b v) ≡ count (λ k. eqb (link_to b k) v) (upto (L b))
  in_count =
      same_length (L b) (in_links b v) (keep to (upto (L b))) (in_known b v) (λ k h. times-keep_past to k (L b) h)
      (λ k h. in_times s v k h ∙ sym (times-keep-upto to k (L b) h))
      ∙ length-keep to (upto (L b))
    where
      to : ℕ → Bool
      to k = eqb (link_to b k) v

  -- entry j of a node's outgoing links: known, from that node, and not among those before it
  module _ (j : ℕ) (h : j < length (out_links b v)) where
    pub entry_known : get_or (out_links b v) j 0 < L b
    entry_known = place-known (L b) (out_links b v) j (out-known b v) h

    pub entry-from : link_from b (get_or (out_links b v) j 0) ≡ v
    entry-from = one_eq_back _ v (omega (arith, times-place (out_links b v) j h, out-times s v _ entry_known))

    pub entry_new : times (get_or (out_links b v) j 0) (take j (out_links b v)) ≡ 0
    entry_new =
        place-new (out_links b v) j h
        (omega (arith, out-times s v _ entry_known, one-small (eqb (link_from b (get_or (out_links b v) j 0)) v)))
