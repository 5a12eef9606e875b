-- One link: its two ports from what is read, how small they are, and what the marks at them say.
-- Rests on Written, neighbours' Writing and order_theory's Refusals.
use Prim.Native.Nat.{ℕ, ◌+◌, ◌*◌, ◌≤◌, ◌<◌}
use native.Mathlib.Omega.{arith}
use mathlib.Core.Path.{◌≡◌, sym, ap, ap₂, ◌∙◌}
use mathlib.Core.Bool.{Bool, false, ◌&&◌, ◌||◌}
use mathlib.Core.List.{List}
use lib.Dec.{eqb}
use lib.ListN.{length, get_or, set}
use borrow.Author.Tests.{eq-eqb, ne_eqb}
use Rattle.paper.specs.Map.{ins, link_from, link_out, link_to, link_in, source_port, target_port}
use Rattle.order_theory.specs.Sound.{Sound}
use Rattle.order_theory.proofs.Refusals.{sound}
use Rattle.neighbours.proofs.Writing.{
  source_known,
  target-known,
  node-inside,
  source-below,
  target_below,
  source_key,
  source-start,
  target_key,
}
use Rattle.port_conflict.specs.FirstLinks.{leads}
use Rattle.tables.specs.declared.Layout.{Layout}
use Rattle.port_conflict.specs.declared.room.PortRoom.{PortRoom}
use Rattle.port_conflict.specs.Marks.{marked, Laid, LinkPassed}
use Rattle.port_conflict.proofs.Written.{mark-read}

-- the marks of two ports are in the area
pub record EndsInside (a : List ℕ) (room : PortRoom) (s t : ℕ) : Type 0 where
  pub source-output : room.outputs + s < length a
  pub target-output : room.outputs + t < length a
  pub source-input : room.inputs + s < length a
  pub target-input : room.inputs + t < length a

module _ {b a : List ℕ} {at : Layout} {room : PortRoom} {k : ℕ} (laid : Laid b a at room) (more : k < at.sizes.links) where
  links-known : Sound b
  links-known = sound b laid.usable.links

  -- the room is within the area
  pub inside : room.outputs + at.sizes.ports ≤ length a
  inside = omega (arith, laid.fits, laid.usable.placed.after-scratch, laid.usable.room)

  -- ---- the port that it starts at, v being the node

  module _ {v : ℕ} (node : v ≡ link_from b k) where
    source-node : v < at.sizes.nodes
    source-node = omega (arith, node, source_known laid.usable.read links-known more)

    pub source_first : room.firsts + v < length a
    source_first = omega (arith, source-node, inside)

    pub source_record : 4 * v + 3 < length b
    source_record = node-inside laid.usable.read links-known more source-node

    module _ {w i : ℕ} (first : w ≡ get_or a (room.firsts + v) 0) (inputs : i ≡ ins b v) where
      pub outputs-start : w + i < 4096
      outputs-start =
          omega (
            arith,
            source-start b k node (first ∙ laid.firsts v source-node) inputs,
            source-below laid.usable.read links-known more,
            laid.usable.read.few-ports,
          )

      pub source_is : {o : ℕ} → o ≡ link_out b k → w + i + o ≡ source_port b k
      source_is = source_key b k node (first ∙ laid.firsts v source-node) inputs

  pub source-small : source_port b k < 4096
  source-small = omega (arith, source-below laid.usable.read links-known more, laid.usable.read.few-ports)

  -- ---- the port that it ends at

  module _ {v : ℕ} (node : v ≡ link_to b k) where
    target-node : v < at.sizes.nodes
    target-node = omega (arith, node, target-known laid.usable.read links-known more)

    pub target_first : room.firsts + v < length a
    target_first = omega (arith, target-node, inside)

    pub target_is : {w i : ℕ} → w ≡ get_or a (room.firsts + v) 0 → i ≡ link_in b k → w + i ≡ target_port b k
    target_is first = target_key b k node (first ∙ laid.firsts v target-node)

  pub target_small : target_port b k < 4096
  target_small = omega (arith, target_below laid.usable.read links-known more, laid.usable.read.few-ports)

  -- ---- both have their marks in the area

  pub ends-inside : {s t : ℕ} → s ≡ source_port b k → t ≡ target_port b k → EndsInside a room s t
  ends-inside source target =
      record {
        source-output = omega (arith, source, source-below laid.usable.read links-known more, inside);
        target-output = omega (arith, target, target_below laid.usable.read links-known more, inside);
        source-input = omega (arith, source, source-below laid.usable.read links-known more, inside, laid.fits);
        target-input = omega (arith, target, target_below laid.usable.read links-known more, inside, laid.fits);
      }

-- ---- what the marks at them say

module _ (a : List ℕ) (room : PortRoom) (q other : ℕ) {w : ℕ} (read : w ≡ get_or a (room.outputs + q) 0) where
  pub leads_nowhere : (w ≡ 1 → ⊥) → eqb w 1 ≡ leads (marked a room.inputs) (marked a room.outputs) q other
  leads_nowhere off = ne_eqb w 1 off ∙ sym (ap (λ (c : Bool). c && marked a room.inputs other) (sym (mark-read a room.outputs q read) ∙ ne_eqb w 1 off))

  pub leads_by : {x : ℕ} → w ≡ 1 → x ≡ get_or a (room.inputs + other) 0
      → eqb x 1 ≡ leads (marked a room.inputs) (marked a room.outputs) q other
  leads_by on then =
      mark-read a room.inputs other then
      ∙ sym (ap (λ (c : Bool). c && marked a room.inputs other) (sym (mark-read a room.outputs q read) ∙ eq-eqb w 1 on))

-- .. and where they lead to no input, the marks among the outputs are taken back
module _ (b a : List ℕ) (room : PortRoom) (k : ℕ) {s t : ℕ} (source : s ≡ source_port b k) (target : t ≡ target_port b k) where
  abbrev pub leads_now : ℕ → ℕ → Bool
  leads_now = leads (marked a room.inputs) (marked a room.outputs)

  pub meets_not : {r r' : Bool} → r ≡ leads_now s t → r ≡ false → r' ≡ leads_now t s → r' ≡ false
      → LinkPassed b a (set (set a (room.outputs + s) 0) (room.outputs + t) 0) room k false
  meets_not says e says' e' =
      record {
        says = sym (ap₂ ◌||◌ (sym (ap₂ leads_now source target) ∙ sym says ∙ e) (sym (ap₂ leads_now target source) ∙ sym says' ∙ e'));
        left = ap₂ (λ (x y : ℕ). set (set a (room.outputs + x) 0) (room.outputs + y) 0) source target;
      }
