-- The links of a node as weights over all links, and the owner of a link's output port.
-- Rests on order_theory (each link stands once among its node's links) and lists.Weight.
use Prim.Native.Nat.{ℕ, suc, ◌+◌, ◌≤◌, ◌<◌}
use native.Mathlib.Omega.{arith}
use mathlib.Core.Path.{◌≡◌, refl, sym, ap, ◌∙◌}
use mathlib.Core.Bool.{Bool, true, false, cond, ◌&&◌, and_comm}
use mathlib.Core.List.{List, [], ◌∷◌, Memᴰ}
use lib.ListN.{length}
use lib.Dec.{eqb, ltb}
use borrow.Author.Tests.{lt-ltb, le-ltb, eq-eqb}
use Rattle.lists.specs.Lists.{upto, one, count, times}
use Rattle.lists.specs.Found.{number}
use Rattle.lists.proofs.Count.{one_eq_back}
use Rattle.lists.proofs.First.{FirstOf, first-is}
use Rattle.paper.specs.Map.{N, L, link_from, link_to, first_port, output, source_port, port_node, in_links, out_links}
use Rattle.paper.specs.Accepted.{links_between}
use Rattle.order_theory.specs.Sound.{Sound}
use Rattle.order_theory.proofs.Ports.{ports-end}
use Rattle.order_theory.proofs.Links.{in_known, out-known, in_times, out-times}
use Rattle.lists.specs.Weight.{weight}
use Rattle.lines_theory.specs.Lined.{every}
use Rattle.lists.proofs.Members.{member-count, member_below}
use Rattle.lists.proofs.Weight.{count-total, count-listed, count-upto-same}

both_or_none : (s t : Bool) → one (s && t) ≡ cond t (one s + 0) 0
both_or_none true true = refl
both_or_none true false = refl
both_or_none false true = refl
both_or_none false false = refl

count_true : (ks : List ℕ) → count every ks ≡ length ks
count_true [] = refl
count_true (k ∷ ks) = omega (arith, count_true ks)

module _ {b : List ℕ} (s : Sound b) (v : ℕ) where
  -- the links into a node that pass
  pub in_weight : (f : ℕ → Bool) → count f (in_links b v) ≡ weight f (link_to b) (v ∷ []) (upto (L b))
  in_weight f =
      count-listed (λ k. eqb (link_to b k) v) (L b) (in_links b v) (in_known b v) (in_times s v) f
      ∙ count-total (λ k. eqb (link_to b k) v && f k) (λ k. cond (f k) (times (link_to b k) (v ∷ [])) 0)
      (λ k. both_or_none (eqb (link_to b k) v) (f k)) (upto (L b))

  pub in_length : length (in_links b v) ≡ weight every (link_to b) (v ∷ []) (upto (L b))
  in_length = sym (count_true (in_links b v)) ∙ in_weight every

  -- the links out of a node that pass
  pub out-weight : (f : ℕ → Bool) → count f (out_links b v) ≡ weight f (link_from b) (v ∷ []) (upto (L b))
  out-weight f =
      count-listed (λ k. eqb (link_from b k) v) (L b) (out_links b v) (out-known b v) (out-times s v) f
      ∙ count-total (λ k. eqb (link_from b k) v && f k) (λ k. cond (f k) (times (link_from b k) (v ∷ [])) 0)
      (λ k. both_or_none (eqb (link_from b k) v) (f k)) (upto (L b))

  pub out-length : length (out_links b v) ≡ weight every (link_from b) (v ∷ []) (upto (L b))
  out-length = sym (count_true (out_links b v)) ∙ out-weight every

  -- a member of a node's outgoing links is a link from that node
  pub out-member : {k : ℕ} → Memᴰ k (out_links b v) → (k < L b) × (link_from b k ≡ v)
  out-member {k} m =
      let h = member_below (out-known b v) m in
      (h, one_eq_back (link_from b k) v (omega (arith, member-count (eqb k) m (eq-eqb k k refl), out-times s v k h)))

-- ---- the owner of a port

module _ {b : List ℕ} (s : Sound b) where
  port-inside : (k : ℕ) → k < L b → source_port b k < first_port b (suc (link_from b k))
  unfolding source_port output first_port
  port-inside k h = omega (arith, s.outlet k h)

  port-behind : (k u : ℕ) → u < link_from b k → first_port b (suc u) ≤ source_port b k
  unfolding source_port output first_port
  port-behind k u l = omega (arith, ports-end b u (link_from b k) l)

  -- a link's output port belongs to the node it comes from
  pub owner-is : (k : ℕ) → k < L b → port_node b (source_port b k) ≡ link_from b k
  unfolding port_node
  owner-is k h = ap number (first-is _ (N b) (link_from b k) found)
    where
      found : FirstOf (λ v. ltb (source_port b k) (first_port b (suc v))) (N b) (link_from b k)
      found =
          record {
            known = s.source k h;
            passes = lt-ltb _ _ (port-inside k h);
            fail = λ u l. le-ltb _ _ (port-behind k u l);
          }

  -- the links from u to v are those into v whose ports u owns
  pub links-between : (u v : ℕ) → count (λ k. eqb (port_node b (source_port b k)) u) (in_links b v) ≡ links_between b u v
  unfolding links_between
  links-between u v =
      count-listed (λ k. eqb (link_to b k) v) (L b) (in_links b v) (in_known b v) (in_times s v) (λ k. eqb (port_node b (source_port b k)) u)
      ∙ count-upto-same (λ k. eqb (link_to b k) v && eqb (port_node b (source_port b k)) u) (λ k. eqb (link_from b k) u && eqb (link_to b k) v) (L b)
      (λ k h. ap (λ (n : ℕ). eqb (link_to b k) v && eqb n u) (owner-is k h) ∙ and_comm (eqb (link_to b k) v) (eqb (link_from b k) u))
