-- The whole ordering: the counters start the queue, the turns order the nodes, and a counter that is not 0 is left exactly of a node
-- never ordered. Rests on Running, Inputs and order_theory.
use Prim.Native.Nat.{ℕ, zero, suc, ◌+◌, ◌-◌, ◌≤◌, ◌<◌}
use native.Mathlib.Decide.{ℕ_discrete}
use native.Mathlib.Omega.{arith}
use borrow.Author.Tests.{eq-eqb, ne_eqb}
use mathlib.Core.Path.{◌≡◌, sym, ap, ◌∙◌}
use mathlib.Core.Logic.{inl, inr}
use mathlib.Core.Bool.{not}
use mathlib.Core.List.{List, [], map}
use lib.ListN.{length, get_or}
use lib.Seq.{sets, length-sets}
use lib.Dec.{eqb}
use Rattle.lists.specs.Lists.{upto, keep, In}
use Rattle.lists.specs.Found.{first}
use Rattle.lists.proofs.Count.{keep-upto}
use Rattle.lists.proofs.Extends.{extends_length}
use Rattle.lists.proofs.First.{first-same}
use Rattle.lists.proofs.Places.{times_in, times_in_back}
use Rattle.lists.proofs.Sections.{get_or-sets_in, sets_comm}
use Rattle.lists.proofs.Upto.{length-table, get_or-table}
use Rattle.paper.specs.Map.{N, link_to, in_links}
use Rattle.paper.specs.Order.{started, queue_after, never_ordered, order as order_of_map}
use Rattle.paper.specs.Refusals.{Ruling, refuse, rule6}
use Rattle.order_theory.specs.Sound.{Sound}
use Rattle.order_theory.specs.Queued.{filled}
use Rattle.order_theory.proofs.Queue.{joined_once, filled-most, filled-all}
use Rattle.order_theory.proofs.Turns.{after-grows}
use Rattle.order_theory.proofs.Queued.{queued}
use Rattle.order_theory.proofs.Refusals.{in_placed, never_ordered_lem}
use Rattle.toposort.specs.Queue.{Counters, zero_counters}
use Rattle.tables.specs.declared.Layout.{Layout}
use Rattle.tables.specs.Within.{Within}
use Rattle.tables.proofs.Within.{within_none, within-sets}
use Rattle.neighbours.specs.declared.Listing.{Listing}
use Rattle.neighbours.proofs.Keeping.{linked-apart}
use Rattle.toposort.specs.Standing.{Indexed, Standing, open_inputs, laid, with_targets}
use Rattle.toposort.proofs.Laying.{is-sound, counters-ready, length_open, counter_is}
use Rattle.toposort.proofs.Running.{as_long, few, standing, over}

-- a node has open inputs at the end exactly if it was never ordered
module _ {b : List ℕ} (s : Sound b) {v : ℕ} (h : v < N b) where
  all-filled : filled b (queue_after b (N b)).followed v ≡ length (in_links b v) → In v (order_of_map b)
  unfolding order_of_map
  all-filled e = times_in_back v (queue_after b (N b)).joined (omega (arith, (filled-all s (queued s (N b)) v h).0 e))

  ordered-filled : In v (order_of_map b) → filled b (queue_after b (N b)).followed v ≡ length (in_links b v)
  unfolding order_of_map
  ordered-filled i =
      (filled-all s (queued s (N b)) v h).1
      (omega (arith, times_in v (queue_after b (N b)).joined i, joined_once s (queued s (N b)) v))

  left_is : not (eqb (length (in_links b v) - filled b (queue_after b (N b)).followed v) 0) ≡ never_ordered b v
  unfolding never_ordered
  left_is = go (ℕ_discrete (filled b (queue_after b (N b)).followed v) (length (in_links b v)))
    where
      go : Dec (filled b (queue_after b (N b)).followed v ≡ length (in_links b v))
          → not (eqb (length (in_links b v) - filled b (queue_after b (N b)).followed v) 0) ≡ never_ordered b v
      go (yes e) =
          ap not (eq-eqb (length (in_links b v) - filled b (queue_after b (N b)).followed v) 0 (omega arith))
          ∙ sym (in_placed v (order_of_map b) (all-filled e))
      go (no ne) =
          ap not (ne_eqb (length (in_links b v) - filled b (queue_after b (N b)).followed v) 0 (λ e. ne (omega (arith, filled-most s (queued s (N b)) v))))
          ∙ sym ((never_ordered_lem b v).1 (λ i. ne (ordered-filled i)))

-- the queue only grows
grows : (b : List ℕ) (t : ℕ) → length (queue_after b 0).joined ≤ length (queue_after b t).joined
grows b zero = omega arith
grows b (suc t) = omega (arith, grows b t, extends_length (after-grows b t))

module _ {b a : List ℕ} {at : Layout} {links : Listing} (begun : Indexed b a at links) where
  abbrev written : List ℕ
  written = with_targets b a at links

  many-targets : length (map (link_to b) (upto at.sizes.links)) ≡ at.sizes.links
  many-targets = length-table (link_to b) at.sizes.links

  long-written : length written ≡ length a
  unfolding with_targets
  long-written = length-sets a links.keys (map (link_to b) (upto at.sizes.links))

  -- the keys' place is apart from what is read
  keys-written : Within links.keys at.sizes.links a written
  unfolding with_targets
  keys-written = within-sets within_none links.keys (map (link_to b) (upto at.sizes.links)) (omega arith) (omega (arith, many-targets))

  index : Indexed b written at links
  index =
      record {
        linked = linked-apart begun.linked keys-written (inl begun.linked.after-firsts) (inr begun.linked.after-keys);
        before = begun.before;
        room = omega (arith, long-written, begun.room);
      }

  pub index-under : Indexed b (with_targets b a at links) at links
  index-under = index

  module _ {a₁ : List ℕ} (e₁ : a₁ ≡ sets (with_targets b a at links) links.end (open_inputs b at.sizes.nodes [])) where
    long₁ : length a₁ ≡ length a
    long₁ =
        ap length e₁ ∙ length-sets (with_targets b a at links) links.end (open_inputs b at.sizes.nodes [])
        ∙ long-written

    pub counters : Counters a₁ at.order links.end at.sizes.nodes
    counters =
        record {
          apart = (counters-ready begun).apart;
          fits = omega (arith, long₁, begun.room);
          small = (counters-ready begun).small;
        }

    -- the nodes whose counter is 0 are those without linked inputs
    free_are : zero_counters a₁ links.end at.sizes.nodes ≡ (queue_after b 0).joined
    unfolding zero_counters queue_after started open_inputs
    free_are =
        keep-upto (λ v. eqb (get_or a₁ (links.end + v) 0) 0) (λ v. eqb (length (in_links b v)) 0) at.sizes.nodes
        (λ v h. ap (λ (x : ℕ). eqb x 0) (counter v h))
        ∙ ap (λ (m : ℕ). keep (λ v. eqb (length (in_links b v)) 0) (upto m)) (sym begun.linked.read.nodes)
      where
        whole : (x : ℕ) → x - 0 ≡ x
        whole x = omega arith

        counter : (v : ℕ) → v < at.sizes.nodes → get_or a₁ (links.end + v) 0 ≡ length (in_links b v)
        counter v h =
            ap (λ (m : List ℕ). get_or m (links.end + v) 0) e₁
            ∙ get_or-sets_in (with_targets b a at links) links.end (open_inputs b at.sizes.nodes []) v 0 (omega (arith, length_open b at.sizes.nodes []))
            (omega (arith, length_open b at.sizes.nodes [], long-written, begun.room))
            ∙ get_or-table (λ w. length (in_links b w) - 0) at.sizes.nodes v 0 h
            ∙ whole (length (in_links b v))

    module _ {joined : ℕ} (many : joined ≡ length (zero_counters a₁ links.end at.sizes.nodes)) {a₂ : List ℕ} (e₂ : a₂ ≡ sets a₁ at.order (zero_counters a₁ links.end at.sizes.nodes)) where
      is-laid : a₂ ≡ laid b written at links (queue_after b 0)
      unfolding laid queue_after started
      is-laid =
          e₂ ∙ ap (sets a₁ at.order) free_are
          ∙ ap (λ (m : List ℕ). sets m at.order (queue_after b 0).joined) e₁
          ∙ sets_comm written links.end (open_inputs b at.sizes.nodes []) at.order (queue_after b 0).joined
          (inr (omega (arith, few begun 0, (counters-ready begun).apart)))

      pub standing₀ : Standing b a₂ at links 0 joined
      standing₀ = standing index 0 (many ∙ ap length free_are) is-laid

      module _ {a₃ : List ℕ} (e₃ : a₃ ≡ laid b a₂ at links (queue_after b at.sizes.nodes)) where
        pub laid₃ : a₃ ≡ laid b (with_targets b a at links) at links (queue_after b at.sizes.nodes)
        laid₃ = over index 0 (many ∙ ap length free_are) is-laid at.sizes.nodes (grows b at.sizes.nodes) e₃

        pub room₃ : links.end + at.sizes.nodes ≤ length a₃
        room₃ = omega (arith, ap length laid₃ ∙ as_long index (queue_after b at.sizes.nodes), index.room)

        pub said : {x : Ruling} → x ≡ refuse 6 (first (λ v. not (eqb (get_or a₃ (links.end + v) 0) 0)) at.sizes.nodes) → x ≡ rule6 b
        unfolding rule6
        said e =
            e
            ∙ ap (refuse 6)
            (first-same (λ v. not (eqb (get_or a₃ (links.end + v) 0) 0)) (never_ordered b) at.sizes.nodes (λ v h. left v h)
            ∙ ap (first (never_ordered b)) (sym begun.linked.read.nodes))
          where
            sound-map : Sound b
            sound-map = is-sound begun

            left : (v : ℕ) → v < at.sizes.nodes → not (eqb (get_or a₃ (links.end + v) 0) 0) ≡ never_ordered b v
            left v h =
                ap (λ (m : List ℕ). not (eqb (get_or m (links.end + v) 0) 0)) laid₃
                ∙ ap (λ (x : ℕ). not (eqb x 0))
                (counter_is index (queued sound-map at.sizes.nodes) h)
                ∙ ap (λ (m : ℕ). not (eqb (length (in_links b v) - filled b (queue_after b m).followed v) 0)) (sym begun.linked.read.nodes)
                ∙ left_is sound-map (omega (arith, begun.linked.read.nodes))
