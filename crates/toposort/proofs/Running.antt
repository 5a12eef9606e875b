-- The turns one after the other: what a turn leaves is what the next one finds, and at the end the order is whole.
-- Rests on Laying, order_theory.Order and lists.Sections.
use Prim.Native.Nat.{ℕ, ◌+◌, ◌≤◌, ◌<◌}
use native.Mathlib.Omega.{arith}
use native.Mathlib.Numerals.{add-one}
use mathlib.Core.Path.{◌≡◌, sym, ap, ◌∙◌, subst}
use mathlib.Core.Logic.{inl, inr}
use mathlib.Core.List.{List}
use lib.ListN.{length}
use lib.Seq.{sets, length-sets}
use Rattle.lists.proofs.Extends.{extends_length}
use Rattle.lists.proofs.Sections.{part, part-sets_in, part-sets-out, sets-sets, sets_comm, sets-part}
use Rattle.paper.specs.Order.{Queue, queue_after, order as order_of_map}
use Rattle.order_theory.specs.Sound.{Sound}
use Rattle.order_theory.proofs.Queue.{room}
use Rattle.order_theory.proofs.Turns.{after-grows}
use Rattle.order_theory.proofs.Queued.{queued}
use Rattle.order_theory.proofs.Order.{order_complete, settled}
use Rattle.tables.specs.declared.Layout.{Layout}
use Rattle.neighbours.specs.declared.Listing.{Listing}
use Rattle.toposort.specs.Queue.{Counters}
use Rattle.toposort.specs.Standing.{Indexed, Standing, open_inputs, laid}
use Rattle.toposort.proofs.Laying.{is-sound, counters-ready, length_open, linked-laid}

module _ {b a : List ℕ} {at : Layout} {links : Listing} (index : Indexed b a at links) where
  s : Sound b
  s = is-sound index

  -- at most all nodes have joined
  pub few : (t : ℕ) → length (queue_after b t).joined ≤ at.sizes.nodes
  few t = omega (arith, room s (queued s t), index.linked.read.nodes)

  ready : Counters a at.order links.end at.sizes.nodes
  ready = counters-ready index

  pub as_long : (q : Queue) → length (laid b a at links q) ≡ length a
  unfolding laid
  as_long q = length-sets (sets a at.order q.joined) links.end (open_inputs b at.sizes.nodes q.followed) ∙ length-sets a at.order q.joined

  index-stands : (q : Queue) → length q.joined ≤ at.sizes.nodes → Indexed b (laid b a at links q) at links
  index-stands q h = record { linked = linked-laid index q h; before = index.before; room = omega (arith, as_long q, index.room) }

  -- the queue and the counters, as the turn finds them
  queue-stands : (q : Queue) → length q.joined ≤ at.sizes.nodes → part (laid b a at links q) at.order (length q.joined) ≡ q.joined
  unfolding laid
  queue-stands q h =
      part-sets-out (sets a at.order q.joined) links.end (open_inputs b at.sizes.nodes q.followed) at.order (length q.joined) 0 (inl (omega (arith, ready.apart)))
      (omega (arith, length-sets a at.order q.joined, ready.apart, ready.fits))
      ∙ part-sets_in a at.order q.joined 0 (omega (arith, ready.apart, ready.fits))

  counters_stand : (q : Queue) → part (laid b a at links q) links.end at.sizes.nodes ≡ open_inputs b at.sizes.nodes q.followed
  unfolding laid
  counters_stand q =
      ap (part (laid b a at links q) links.end) (sym (length_open b at.sizes.nodes q.followed))
      ∙ part-sets_in (sets a at.order q.joined) links.end (open_inputs b at.sizes.nodes q.followed) 0
      (omega (arith, length_open b at.sizes.nodes q.followed, length-sets a at.order q.joined, ready.fits))

  module _ {area : List ℕ} (t : ℕ) {ordered : ℕ} (count : ordered ≡ length (queue_after b t).joined) (now : area ≡ laid b a at links (queue_after b t)) where
    pub standing : Standing b area at links t ordered
    standing =
        subst (λ (m : List ℕ). Standing b m at links t ordered) (sym now)
        (record {
          index = index-stands (queue_after b t) (few t);
          count = count;
          queue = ap (part (laid b a at links (queue_after b t)) at.order) count ∙ queue-stands (queue_after b t) (few t);
          counters = counters_stand (queue_after b t);
        })

    -- what is laid over is gone
    pub over : (u : ℕ) → length (queue_after b t).joined ≤ length (queue_after b u).joined → {r : List ℕ}
        → r ≡ laid b area at links (queue_after b u) → r ≡ laid b a at links (queue_after b u)
    unfolding laid
    over u grows e =
        e ∙ ap (λ (m : List ℕ). laid b m at links (queue_after b u)) now
        ∙ ap (λ (m : List ℕ). sets m links.end new)
        (sets_comm (sets a at.order old_nodes) links.end old at.order nodes (inr (omega (arith, few u, ready.apart)))
        ∙ ap (λ (m : List ℕ). sets m links.end old) (sets-sets a at.order old_nodes nodes grows))
        ∙ sets-sets (sets a at.order nodes) links.end old new (omega (arith, length_open b at.sizes.nodes (queue_after b t).followed, length_open b at.sizes.nodes (queue_after b u).followed))
      where
        old_nodes : List ℕ
        old_nodes = (queue_after b t).joined

        nodes : List ℕ
        nodes = (queue_after b u).joined

        old : List ℕ
        old = open_inputs b at.sizes.nodes (queue_after b t).followed

        new : List ℕ
        new = open_inputs b at.sizes.nodes (queue_after b u).followed

    pub over_next : {r : List ℕ} → r ≡ laid b area at links (queue_after b (t + 1)) → r ≡ laid b a at links (queue_after b (t + 1))
    over_next =
        over (t + 1)
        (subst (λ (u : ℕ). length (queue_after b t).joined ≤ length (queue_after b u).joined) (sym (add-one t)) (extends_length (after-grows b t)))

    pub no_fewer : t < ordered → {r : ℕ} → r ≡ length (queue_after b (t + 1)).joined → t + 1 ≤ r
    no_fewer h e =
        omega (arith, count, e ∙ ap (λ (u : ℕ). length (queue_after b u).joined) (add-one t), extends_length (after-grows b t))

    pub turns_left : t < ordered → t < at.sizes.nodes
    turns_left h = omega (arith, count, few t)

    -- no turn is left
    module _ (all : ordered ≤ t) (most : t ≤ ordered) where
      full : length (queue_after b t).joined ≡ t
      full = omega (arith, count)

      pub order-count : ordered ≡ length (order_of_map b)
      order-count = count ∙ ap length (sym (order_complete s t full))

      pub order-laid : area ≡ laid b a at links (queue_after b at.sizes.nodes)
      order-laid =
          now ∙ ap (laid b a at links) (sym (settled b t (omega (arith, full)) at.sizes.nodes (omega (arith, full, few t))))

-- the first turn's area is as it stands
pub none-taken : {b a : List ℕ} {at : Layout} {links : Listing} {joined : ℕ} → Standing b a at links 0 joined
    → a ≡ laid b a at links (queue_after b 0)
unfolding laid
none-taken {b} {a} {at} {links} {joined} st =
    sym (sets-part a links.end at.sizes.nodes 0 st.index.room)
    ∙ ap (λ (m : List ℕ). sets m links.end (part a links.end at.sizes.nodes))
    (sym (sets-part a at.order joined 0 (omega (arith, st.count, few st.index 0, (counters-ready st.index).apart, st.index.room)))
    ∙ ap (sets a at.order) st.queue)
    ∙ ap (sets (sets a at.order (queue_after b 0).joined) links.end) st.counters
