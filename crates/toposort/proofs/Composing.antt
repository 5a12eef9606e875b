-- The scratch laid out: what each step of the ordering finds, and what they come to.
-- Rests on Running, Ordered, tables' Within and lists.Sections.
use Prim.Native.Nat.{ℕ, ◌≤◌, ◌<◌}
use native.Mathlib.Omega.{arith}
use mathlib.Core.Path.{◌≡◌, refl, sym, ap, ◌∙◌, subst}
use mathlib.Core.Logic.{inl, inr}
use mathlib.Core.List.{List, map}
use lib.ListN.{length, get_or}
use lib.Seq.{sets}
use Rattle.lists.specs.Lists.{upto}
use Rattle.lists.proofs.Sections.{Apart, get_or-sets-out}
use Rattle.lists.proofs.Upto.{length-table}
use Rattle.paper.specs.Map.{N, link_to}
use Rattle.paper.specs.Order.{queue_after, order}
use Rattle.tables.specs.declared.Layout.{Layout}
use Rattle.tables.specs.Within.{Within}
use Rattle.tables.specs.Placed.{scratch_size}
use Rattle.tables.proofs.Within.{within-sets, within_wider}
use Rattle.neighbours.specs.Linked.{Free, OutgoingLaid, outgoing_size}
use Rattle.neighbours.specs.declared.Listing.{Listing}
use Rattle.toposort.specs.Standing.{Indexed, Standing, open_inputs, laid, with_targets}
use Rattle.toposort.specs.Laid.{Ready, OrderLaid}
use Rattle.toposort.proofs.Laying.{length_open}
use Rattle.toposort.proofs.Running.{few, standing}
use Rattle.toposort.proofs.Ordered.{index-under}

module _ {b a : List ℕ} {at : Layout} (ready : Ready b a at) where
  pub free : Free b a at.sizes at.scratch (outgoing_size at.sizes)
  free = record { read = ready.read; links = ready.links; room = omega (arith, ready.placed.after-scratch, ready.room) }

  module _ {links : Listing} {a₁ : List ℕ} (out : OutgoingLaid b a at.sizes at.scratch links a₁) where
    pub indexed : Indexed b a₁ at links
    indexed =
        record {
          linked = out.linked;
          before = omega (arith, out.first, ready.placed);
          room = omega (arith, out.last, out.kept.long, ready.placed.after-scratch, ready.room);
        }

    -- until then only the scratch is written
    scratched : Within at.scratch (scratch_size at.sizes) a (with_targets b a₁ at links)
    unfolding with_targets
    scratched =
        within-sets (within_wider out.kept at.scratch (scratch_size at.sizes) (omega arith) (omega arith)) links.keys
        (map (link_to b) (upto at.sizes.links)) (omega (arith, out.first, out.linked))
        (omega (arith, out.last, out.linked, length-table (link_to b) at.sizes.links))

    module _ {m : List ℕ} (e : m ≡ laid b (with_targets b a₁ at links) at links (queue_after b at.sizes.nodes)) where
      joined-few : length (queue_after b at.sizes.nodes).joined ≤ at.sizes.nodes
      joined-few = few indexed at.sizes.nodes

      inside : Within 0 at.end a m
      unfolding laid
      inside =
          subst (Within 0 at.end a) (sym e)
          (within-sets
          (within-sets (within_wider scratched 0 at.end (omega arith) (omega (arith, ready.placed.after-scratch)))
          at.order (queue_after b at.sizes.nodes).joined (omega arith) (omega (arith, joined-few, ready.placed)))
          links.end (open_inputs b at.sizes.nodes (queue_after b at.sizes.nodes).followed) (omega arith)
          (omega (arith, length_open b at.sizes.nodes (queue_after b at.sizes.nodes).followed, out.last, ready.placed.after-scratch)))

      same : (i : ℕ) → Apart i at.order at.sizes.nodes → i < at.scratch → get_or m i 0 ≡ get_or a i 0
      unfolding laid
      same i apart low =
          ap (λ (x : List ℕ). get_or x i 0) e
          ∙ get_or-sets-out (sets (with_targets b a₁ at links) at.order (queue_after b at.sizes.nodes).joined) links.end
          (open_inputs b at.sizes.nodes (queue_after b at.sizes.nodes).followed) i 0 (inl (omega (arith, out.last)))
          ∙ get_or-sets-out (with_targets b a₁ at links) at.order (queue_after b at.sizes.nodes).joined i 0 (nearer apart)
          ∙ scratched.same i (inl low)
        where
          nearer : Apart i at.order at.sizes.nodes → Apart i at.order (length (queue_after b at.sizes.nodes).joined)
          nearer (inl h) = inl h
          nearer (inr h) = inr (omega (arith, joined-few))

      stands : Standing b m at links (N b) (length (order b))
      unfolding order
      stands =
          standing (index-under indexed) (N b) refl
          (e ∙ ap (λ (t : ℕ). laid b (with_targets b a₁ at links) at links (queue_after b t)) (sym ready.read.nodes))

      pub order-laid : OrderLaid b a at links m
      unfolding order
      order-laid =
          record {
            ready =
                record { read = ready.read; placed = ready.placed; links = ready.links; room = omega (arith, inside.long, ready.room) };
            index = stands.index;
            first = out.first;
            last = out.last;
            ordered = stands.queue;
            same = same;
            inside = inside;
          }
