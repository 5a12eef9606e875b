-- Ports are numbered node by node, so a port number belongs to one node and one offset: a link's own ports are no other link's by chance.
-- Rests on the definitions of ports (paper.Map) and on Sound.
use Prim.Native.Nat.{ℕ, zero, suc, ◌+◌, ◌≤◌, ◌<◌}
use native.Mathlib.Decide.{ℕ_discrete, dec_lt}
use native.Mathlib.Omega.{arith}
use mathlib.Core.Path.{◌≡◌, sym, ap, ap₂, subst}
use mathlib.Core.Bool.{false, ◌&&◌, or-false}
use mathlib.Core.List.{List}
use lib.Dec.{eqb}
use borrow.Author.Tests.{eq-eqb, ne_eqb}
use Rattle.lists.specs.Lists.{upto, keep}
use Rattle.paper.specs.Map.{
  N,
  L,
  P,
  ins,
  outs,
  link_from,
  link_out,
  link_to,
  link_in,
  first_port,
  input,
  output,
  source_port,
  target_port,
  port_links,
}
use Rattle.order_theory.specs.Sound.{Sound}
use Rattle.lists.proofs.Count.{keep-upto}

-- the ports of a node end before those of a later node
pub ports-end : (b : List ℕ) (u v : ℕ) → u < v → first_port b u + (ins b u + outs b u) ≤ first_port b v
unfolding first_port
ports-end b u zero h = absurd (omega arith)
ports-end b u (suc v) h = go (ℕ_discrete u v) (ports-end b u v)
  where
    go : Dec (u ≡ v) → (u < v → first_port b u + (ins b u + outs b u) ≤ first_port b v)
        → first_port b u + (ins b u + outs b u) ≤ first_port b v + (ins b v + outs b v)
    go (yes e) ih = subst (λ (w : ℕ). first_port b u + (ins b u + outs b u) ≤ first_port b w + (ins b w + outs b w)) e (omega arith)
    go (no ne) ih = omega (arith, ih (omega arith))

-- no node's first port is past the last port
pub ports-below : (b : List ℕ) (v : ℕ) → v ≤ N b → first_port b v ≤ P b
unfolding P
ports-below b v h = go (dec_lt v (N b))
  where
    last : (v m : ℕ) → v ≤ m → (v < m → ⊥) → v ≡ m
    last v m le ge = omega arith

    go : Dec (v < N b) → first_port b v ≤ first_port b (N b)
    go (yes lt) = omega (arith, ports-end b v (N b) lt)
    go (no ge) = subst (λ (m : ℕ). first_port b v ≤ first_port b m) (last v (N b) h ge) (omega arith)

-- one number is a port of one node
same-node : (b : List ℕ) (u v x y : ℕ) → x < ins b u + outs b u → y < ins b v + outs b v → first_port b u + x ≡ first_port b v + y → u ≡ v
same-node b u v x y hx hy e = go (dec_lt u v) (dec_lt v u)
  where
    go : Dec (u < v) → Dec (v < u) → u ≡ v
    go (yes l) d = absurd (omega (arith, ports-end b u v l))
    go (no l) (yes m) = absurd (omega (arith, ports-end b v u m))
    go (no l) (no m) = omega arith

-- .. at one offset, and an input or an output
module _ (b : List ℕ) (u v x y : ℕ) where
  pub output-same : x < outs b u → y < outs b v → output b u x ≡ output b v y → (u ≡ v) × (x ≡ y)
  unfolding output
  output-same hx hy e =
      let q : u ≡ v = same-node b u v (ins b u + x) (ins b v + y) (omega arith) (omega arith) (omega arith) in
      (q, omega (arith, ap (first_port b) q, ap (ins b) q))

  pub input-same : x < ins b u → y < ins b v → input b u x ≡ input b v y → (u ≡ v) × (x ≡ y)
  unfolding input
  input-same hx hy e =
      let q : u ≡ v = same-node b u v x y (omega arith) (omega arith) (omega arith) in
      (q, omega (arith, ap (first_port b) q))

  pub output_no_input : x < outs b u → y < ins b v → output b u x ≡ input b v y → ⊥
  unfolding output input
  output_no_input hx hy e =
      let q : u ≡ v = same-node b u v (ins b u + x) y (omega arith) (omega arith) (omega arith) in
      omega (arith, ap (first_port b) q, ap (ins b) q)

-- a test of one number that says the same as two tests
pub both : {a b c d m n : ℕ} → (m ≡ n → (a ≡ b) × (c ≡ d)) → (a ≡ b → c ≡ d → m ≡ n) → eqb m n ≡ (eqb a b && eqb c d)
both {a} {b} {c} {d} {m} {n} split join = go (ℕ_discrete a b) (ℕ_discrete c d)
  where
    go : Dec (a ≡ b) → Dec (c ≡ d) → eqb m n ≡ (eqb a b && eqb c d)
    go (yes p) (yes q) = rw (eq-eqb m n (join p q), eq-eqb a b p, eq-eqb c d q)
    go (yes p) (no q) = rw (ne_eqb m n (λ e. q (split e).1), eq-eqb a b p, ne_eqb c d q)
    go (no p) q = rw (ne_eqb m n (λ e. p (split e).0), ne_eqb a b p)

module _ {b : List ℕ} (s : Sound b) (k : ℕ) (h : k < L b) (v : ℕ) where
  -- a link leaves from its own output, and from no other
  pub source-output : (o : ℕ) → o < outs b v → eqb (source_port b k) (output b v o) ≡ (eqb (link_from b k) v && eqb (link_out b k) o)
  unfolding source_port
  source-output o l =
      both {a = link_from b k} {b = v} {c = link_out b k} {d = o} {m = source_port b k} {n = output b v o}
      (output-same b (link_from b k) v (link_out b k) o (s.outlet k h) l) (λ p q. ap₂ (output b) p q)

  -- .. and from no input
  pub source-input : (i : ℕ) → i < ins b v → eqb (source_port b k) (input b v i) ≡ false
  unfolding source_port
  source-input i l = ne_eqb _ _ (output_no_input b (link_from b k) v (link_out b k) i (s.outlet k h) l)

  -- a link arrives at its own input, and at no other
  pub target-input : (i : ℕ) → i < ins b v → eqb (target_port b k) (input b v i) ≡ (eqb (link_to b k) v && eqb (link_in b k) i)
  unfolding target_port
  target-input i l =
      both {a = link_to b k} {b = v} {c = link_in b k} {d = i} {m = target_port b k} {n = input b v i}
      (input-same b (link_to b k) v (link_in b k) i (s.inlet k h) l) (λ p q. ap₂ (input b) p q)

  -- .. and at no output
  pub target-output : (o : ℕ) → o < outs b v → eqb (target_port b k) (output b v o) ≡ false
  unfolding target_port
  target-output o l = ne_eqb _ _ (λ e. output_no_input b v (link_to b k) o (link_in b k) l (s.inlet k h) (sym e))

-- ---- the links of a port, by its direction

module _ {b : List ℕ} (s : Sound b) (v : ℕ) where
  pub links_at_output : (o : ℕ) → o < outs b v → port_links b (output b v o) ≡ keep (λ k. eqb (source_port b k) (output b v o)) (upto (L b))
  unfolding port_links
  links_at_output o l = keep-upto _ _ (L b) (λ k h. rw (target-output s k h v o l) (or-false _))

  pub links_at_input : (i : ℕ) → i < ins b v → port_links b (input b v i) ≡ keep (λ k. eqb (target_port b k) (input b v i)) (upto (L b))
  unfolding port_links
  links_at_input i l = keep-upto _ _ (L b) (λ k h. rw (source-input s k h v i l))
