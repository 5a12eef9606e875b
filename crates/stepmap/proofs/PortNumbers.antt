-- The numbers of ports: one node more, how large they grow, the node of a port, its direction and its offset.
-- Rests on paper's Map, Fields and lists.First.
use Prim.Native.Nat.{ℕ, zero, suc, ◌+◌, ◌-◌, ◌*◌, ◌≤◌, ◌<◌}
use native.Mathlib.Decide.{dec_lt}
use native.Mathlib.Numerals.{add-one}
use native.Mathlib.Omega.{arith}
use mathlib.Core.Bool.{Bool, true, false}
use mathlib.Core.List.{List, map}
use mathlib.Core.Path.{◌≡◌, refl, sym, ap, ◌∙◌, subst}
use lib.Dec.{ltb, leb}
use lib.ListN.{get_or, set}
use lib.Seq.{sets}
use mir.Syntax.{w8}
use mir.Val.{Fits}
use borrow.Author.Tests.{lt-ltb, le-ltb, le-leb, lt-leb}
use Rattle.lists.specs.Found.{number}
use Rattle.lists.specs.Lists.{upto}
use Rattle.paper.specs.Map.{N, P, ins, outs, first_port, port_node, input, output, is_output}
use Rattle.stepmap.specs.Formed.{HasPort, port_of}
use Rattle.stepmap.proofs.Fields.{word_below}
use Rattle.lists.proofs.First.{first-is}
use Rattle.lists.proofs.Upto.{sets-upto-next}

pub first-port_zero : (b : List ℕ) → first_port b 0 ≡ 0
unfolding first_port
first-port_zero b = refl

pub first-port-next : (b : List ℕ) (v : ℕ) → first_port b (v + 1) ≡ first_port b v + (ins b v + outs b v)
unfolding first_port
first-port-next b v = ap (first_port b) (add-one v)

-- the first port of the node after the last
pub total : (b : List ℕ) {n p : ℕ} → p ≡ first_port b n → n ≡ N b → p ≡ P b
unfolding P
total b e f = e ∙ ap (first_port b) f

-- the ports of a node and the first of them, by the node's number
module _ (b : List ℕ) (bytes : (i : ℕ) → Fits w8 (get_or b i 0)) where
  pub ins-below : (v : ℕ) → ins b v < 65536
  unfolding ins
  ins-below v = word_below b bytes (4 * v)

  pub outs-below : (v : ℕ) → outs b v < 65536
  unfolding outs
  outs-below v = word_below b bytes (4 * v + 2)

  pub first_below : (v : ℕ) → first_port b v ≤ 131070 * v
  unfolding first_port
  first_below zero = omega arith
  first_below (suc v) = omega (arith, first_below v, ins-below v, outs-below v)

-- a later node's ports come later
first-rises_by : (b : List ℕ) (v k : ℕ) → first_port b v ≤ first_port b (v + k)
first-rises_by b v zero = omega (arith, ap (first_port b) (none v))
  where
    none : (v : ℕ) → v + zero ≡ v
    none v = omega arith
first-rises_by b v (suc k) =
    omega (arith, first-rises_by b v k, first-port-next b (v + k), ap (first_port b) (one_more v k))
  where
    one_more : (v k : ℕ) → v + suc k ≡ v + k + 1
    one_more v k = omega arith

pub first-rises : (b : List ℕ) (v w : ℕ) → v ≤ w → first_port b v ≤ first_port b w
first-rises b v w h = omega (arith, first-rises_by b v (w - v), ap (first_port b) (back h))
  where
    back : v ≤ w → v + (w - v) ≡ w
    back h = omega arith

-- a node whose first port is not after a known port is known
pub known-before : (b : List ℕ) (n p w : ℕ) → HasPort b n p → first_port b w ≤ p → w < n
unfolding P
known-before b n p w has low = split (dec_lt w n)
  where
    split : Dec (w < n) → w < n
    split (yes lt) = lt
    split (no ge) = absurd (beyond (omega arith))
      where
        beyond : n ≤ w → ⊥
        beyond ge = omega (arith, has.known, has.nodes, ap (first_port b) has.nodes, first-rises b n w ge)

-- v is the node of port p among the first n nodes
pub record Owner (b : List ℕ) (n p v : ℕ) : Type 0 where
  pub known : v < n
  pub low : first_port b v ≤ p
  pub high : p < first_port b (v + 1)

pub owner-node : (b : List ℕ) (p v : ℕ) → Owner b (N b) p v → v ≡ port_node b p
unfolding port_node
owner-node b p v o =
    sym
    (ap number
    (first-is (λ u. ltb p (first_port b (suc u))) (N b) v
    (record {
      known = o.known;
      passes = lt-ltb p (first_port b (suc v)) (omega (arith, o.high, ap (first_port b) (add-one v)));
      fail = λ u before. le-ltb p (first_port b (suc u)) (omega (arith, first-rises b (suc u) v before, o.low));
    })))

-- every port has a node
pub record Owned (b : List ℕ) (n p : ℕ) : Type 0 where
  pub node : ℕ
  pub owner : Owner b n p node

owned : (b : List ℕ) (n p : ℕ) → p < first_port b n → Owned b n p
unfolding first_port
owned b zero p h = absurd (nothing h)
  where
    nothing : {p : ℕ} → p < 0 → ⊥
    nothing h = omega arith
owned b (suc n) p h = split (dec_lt p (first_port b n)) (owned b n p)
  where
    split : Dec (p < first_port b n) → (p < first_port b n → Owned b n p) → Owned b (suc n) p
    split (yes lt) rest =
        let o = rest lt in
        record {
          node = o.node;
          owner = record { known = omega (arith, o.owner.known); low = o.owner.low; high = o.owner.high };
        }
    split (no ge) rest =
        record {
          node = n;
          owner = record { known = omega arith; low = omega arith; high = omega (arith, ap (first_port b) (add-one n)) };
        }

node_owns : (b : List ℕ) (p : ℕ) → p < P b → Owner b (N b) p (port_node b p)
unfolding P
node_owns b p h =
    let o = owned b (N b) p h in
    subst (Owner b (N b) p) (owner-node b p o.node o.owner) o.owner

pub holder : (b : List ℕ) (n p v : ℕ) → HasPort b n p → v ≡ port_node b p → Owner b n p v
holder b n p v has e =
    let o = node_owns b p has.known in
    let place = ap (first_port b) e in
    let next = ap (λ (u : ℕ). first_port b (u + 1)) e in
    record {
      known = omega (arith, has.nodes, o.known);
      low = omega (arith, o.low);
      high = omega (arith, o.high);
    }

-- the direction of a port, and its offset, from its node's first port f and number of inputs i
module _ (b : List ℕ) (p : ℕ) {v f i : ℕ} (node : v ≡ port_node b p) (first : f ≡ first_port b v) (inward : i ≡ ins b v) where
  outputs-from : f + i ≡ output b (port_node b p) 0
  unfolding output
  outputs-from = omega (arith, ap (first_port b) node, ap (ins b) node)

  pub output_test : leb (f + i) p ≡ is_output b p
  unfolding is_output
  output_test = ap (λ (x : ℕ). leb x p) outputs-from

  pub offset_in : f ≤ p → p < f + i → p ≡ port_of b (is_output b p) (port_node b p) (p - f)
  unfolding input
  offset_in low high = rw (sym output_test ∙ lt-leb (f + i) p high) (omega (arith, ap (first_port b) node))

  pub offset_out : f + i ≤ p → p ≡ port_of b (is_output b p) (port_node b p) (p - (f + i))
  unfolding output
  offset_out low =
      rw (sym output_test ∙ le-leb (f + i) p low) (omega (arith, ap (first_port b) node, ap (ins b) node))

-- a port has one offset
pub offset_unique : (b : List ℕ) (out : Bool) (v r s : ℕ) → port_of b out v r ≡ port_of b out v s → r ≡ s
unfolding input output
offset_unique b true v r s e = omega arith
offset_unique b false v r s e = omega arith

-- the first ports of one node more, in a section
pub filled_next : (b : List ℕ) (l : List ℕ) (v : ℕ) {p : ℕ} {m : List ℕ} → p ≡ first_port b v → m ≡ sets l 0 (map (first_port b) (upto v))
    → set m v p ≡ sets l 0 (map (first_port b) (upto (v + 1)))
filled_next b l v e f = rw (e, f) (sets-upto-next (first_port b) l v)
