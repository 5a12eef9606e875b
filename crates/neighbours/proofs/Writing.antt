-- A turn of the writing of keys, for either port of a link: what is read stands, the key is a port, and one key more is written.
-- Rests on order_theory (ports of a sound map), lists.Sections and lists.Upto.
use Prim.Native.Nat.{ℕ, ◌+◌, ◌*◌, ◌≤◌, ◌<◌}
use native.Mathlib.Omega.{arith}
use native.Mathlib.Numerals.{add-one}
use mathlib.Core.Path.{◌≡◌, sym, ap, ◌∙◌}
use mathlib.Core.Logic.{inl}
use mathlib.Core.List.{List, [], ◌∷◌, ◌++◌, map}
use lib.ListN.{length, get_or, set}
use lib.Seq.{sets, length-sets}
use Rattle.lists.specs.Lists.{upto}
use Rattle.lists.proofs.Sections.{get_d_part, get_or-sets-out, sets-next}
use Rattle.lists.proofs.Upto.{length-table, get_or-table, table-suc}
use Rattle.paper.specs.Map.{N, L, P, ins, outs, first_port, input, output, link_from, link_out, link_to, link_in, source_port, target_port}
use Rattle.order_theory.specs.Sound.{Sound}
use Rattle.order_theory.proofs.Ports.{ports-end}
use Rattle.stepmap.specs.Formed.{HasLink, ReadWell}
use Rattle.stepmap.specs.declared.read.Sizes.{Sizes}
use Rattle.neighbours.specs.declared.Listing.{Listing}
use Rattle.neighbours.specs.Tabled.{Tabled}

-- a port of a known node is below P
port-below : (b : List ℕ) (v x : ℕ) → v < N b → x < ins b v + outs b v → first_port b v + x < P b
unfolding P
port-below b v x h lt = omega (arith, ports-end b v (N b) h)

module _ {b : List ℕ} {n l p : ℕ} (read : ReadWell b n l p) (s : Sound b) {k : ℕ} (k<l : k < l) where
  known : k < L b
  known = omega (arith, read.links)

  pub has-link : HasLink b n k
  has-link = record { nodes = read.nodes; inside = omega (arith, read.size) }

  pub source_known : link_from b k < n
  source_known = omega (arith, s.source k known, read.nodes)

  pub target-known : link_to b k < n
  target-known = omega (arith, s.target k known, read.nodes)

  pub node-inside : {v : ℕ} → v < n → 4 * v + 3 < length b
  node-inside h = omega (arith, read.size)

  pub source-below : source_port b k < p
  unfolding source_port output
  source-below =
      omega (
        arith,
        read.ports,
        s.outlet k known,
        port-below b (link_from b k) (ins b (link_from b k) + link_out b k) (s.source k known) (omega (arith, s.outlet k known)),
      )

  pub target_below : target_port b k < p
  unfolding target_port input
  target_below =
      omega
      (arith, read.ports, port-below b (link_to b k) (link_in b k) (s.target k known) (omega (arith, s.inlet k known)))

module _ {b a : List ℕ} {s : Sizes} {at : Listing} (ready : Tabled b a s at) (f : ℕ → ℕ) where
  as_long : {area : List ℕ} (k : ℕ) → area ≡ sets a at.keys (map f (upto k)) → length area ≡ length a
  as_long k now = ap length now ∙ length-sets a at.keys (map f (upto k))

  module _ {area : List ℕ} {k : ℕ} (k<l : k < s.links) (now : area ≡ sets a at.keys (map f (upto k))) where
    pub first-inside : {v : ℕ} → v < s.nodes → at.firsts + v < length area
    first-inside h = omega (arith, as_long k now, ready.apart, ready.room)

    pub first-stands : {v : ℕ} → v < s.nodes → get_or area (at.firsts + v) 0 ≡ first_port b v
    first-stands {v} h =
        ap (λ (m : List ℕ). get_or m (at.firsts + v) 0) now
        ∙ get_or-sets-out a at.keys (map f (upto k)) (at.firsts + v) 0 (inl (omega (arith, ready.apart)))
        ∙ sym (get_d_part a at.firsts (s.nodes + 1) v 0 (omega arith))
        ∙ ap (λ (m : List ℕ). get_or m v 0) ready.table
        ∙ get_or-table (first_port b) (s.nodes + 1) v 0 (omega arith)

    pub one_more : {x : ℕ} → x ≡ f k → set area (at.keys + k) x ≡ sets a at.keys (map f (upto (k + 1)))
    one_more {x} e =
        sets-next a at.keys (map f (upto k)) (x ∷ []) now (length-table f k)
        ∙ ap (λ (y : ℕ). sets a at.keys (map f (upto k) ++ (y ∷ []))) e
        ∙ ap (sets a at.keys) (sym (table-suc f k))
        ∙ ap (λ (m : ℕ). sets a at.keys (map f (upto m))) (sym (add-one k))

-- the key of a link, from what is read
module _ (b : List ℕ) (k : ℕ) {v w : ℕ} where
  pub source_key : {i o : ℕ} → v ≡ link_from b k → w ≡ first_port b v → i ≡ ins b v → o ≡ link_out b k → w + i + o ≡ source_port b k
  unfolding source_port output
  source_key e first inputs out = omega (arith, first ∙ ap (first_port b) e, inputs ∙ ap (ins b) e, out)

  pub source-start : {i : ℕ} → v ≡ link_from b k → w ≡ first_port b v → i ≡ ins b v → w + i ≤ source_port b k
  unfolding source_port output
  source-start e first inputs = omega (arith, first ∙ ap (first_port b) e, inputs ∙ ap (ins b) e)

  pub target_key : {i : ℕ} → v ≡ link_to b k → w ≡ first_port b v → i ≡ link_in b k → w + i ≡ target_port b k
  unfolding target_port input
  target_key e first offset = omega (arith, first ∙ ap (first_port b) e, offset)
