-- A turn of the order in the area: the front's links are read one after the other and followed.
-- Rests on Indexing, Laying and order_theory.Queued.
use Prim.Native.Nat.{ℕ, suc, ◌+◌, ◌-◌, ◌≤◌, ◌<◌}
use native.Mathlib.Omega.{arith}
use native.Mathlib.Numerals.{add-one}
use mathlib.Core.Path.{◌≡◌, sym, ap, ap₂, ◌∙◌, subst}
use mathlib.Core.List.{List}
use lib.ListN.{length, get_or}
use lib.Seq.{sets}
use lib.Dec.{eqb}
use Rattle.lists.specs.Lists.{one, times}
use Rattle.lists.proofs.Sections.{get_d_part, sets-part}
use Rattle.lists.proofs.Places.{place-known}
use Rattle.paper.specs.Map.{N, L, source_port, link_to, out_links}
use Rattle.paper.specs.Order.{Queue, follow, queue_after}
use Rattle.order_theory.specs.Sound.{Sound}
use Rattle.order_theory.specs.Queued.{Queued, front_at, next_link, mid_turn}
use Rattle.order_theory.proofs.Links.{entry_known}
use Rattle.order_theory.proofs.Queue.{room}
use Rattle.order_theory.proofs.Turns.{mid_start, mid_next, mid_end}
use Rattle.order_theory.proofs.Queued.{queued, queued_mid, mid_new}
use Rattle.tables.specs.declared.Layout.{Layout}
use Rattle.neighbours.specs.Linked.{Outgoing, out_start, out_target}
use Rattle.neighbours.specs.declared.Listing.{Listing}
use Rattle.neighbours.proofs.Rows.{link_by}
use Rattle.neighbours.proofs.Targets.{out-fits, out-rises}
use Rattle.toposort.specs.Queue.{Following, followed}
use Rattle.toposort.specs.Standing.{Standing, laid}
use Rattle.toposort.proofs.Indexing.{out-count, out-is}
use Rattle.toposort.proofs.Laying.{is-sound, counters-ready, length-laid, linked-laid, following, follow-laid, follow-count}

module _ {b a : List ℕ} {at : Layout} {links : Listing} {t joined : ℕ} (st : Standing b a at links t joined) (less : t < joined) where
  s : Sound b
  s = is-sound st.index

  nodes : N b ≡ at.sizes.nodes
  nodes = st.index.linked.read.nodes

  more : t < length (queue_after b t).joined
  more = omega (arith, less, st.count)

  fits : length (queue_after b t).joined ≤ at.sizes.nodes
  unfolding s
  fits = omega (arith, room s (queued s t), nodes)

  -- before its first link the turn finds what the turns before have left
  none_yet : (x : ℕ) → queue_after b t ≡ mid_turn b t (x - x)
  none_yet x = sym (mid_start b t) ∙ ap (mid_turn b t) (nought x)
    where
      nought : (x : ℕ) → 0 ≡ x - x
      nought x = omega arith

  pub stands-count : (x : ℕ) → joined ≡ length (mid_turn b t (x - x)).joined
  stands-count x = st.count ∙ ap (λ (q : Queue). length q.joined) (none_yet x)

  pub stands : (x : ℕ) → a ≡ laid b a at links (mid_turn b t (x - x))
  unfolding laid
  stands x =
      sym (sets-part a links.end at.sizes.nodes 0 st.index.room)
      ∙ ap₂ (λ (x y : List ℕ). sets x links.end y)
      (sym (sets-part a at.order joined 0 (omega (arith, fits, st.count, (counters-ready st.index).apart, st.index.room)))
      ∙ ap (sets a at.order) st.queue) st.counters
      ∙ ap (laid b a at links) (none_yet x)

  pub front-inside : at.order + t < length a
  front-inside = omega (arith, more, fits, (counters-ready st.index).apart, st.index.room)

  pub front-is : get_or a (at.order + t) 0 ≡ front_at b t
  unfolding front_at
  front-is = sym (get_d_part a at.order joined t 0 less) ∙ ap (λ (m : List ℕ). get_or m t 0) st.queue

  known : front_at b t < N b
  unfolding front_at s
  known = place-known (N b) (queue_after b t).joined t (queued s t).joined_known more

  -- ---- where the front's links start and end

  pub from : ℕ
  from = out_start b (front_at b t)

  pub to : ℕ
  to = out_start b (suc (front_at b t))

  module _ {v : ℕ} (front : v ≡ front_at b t) where
    pub front-known : v < at.sizes.nodes
    front-known = omega (arith, front, known, nodes)

    pub from_is : {x : ℕ} → x ≡ out_start b v → x ≡ from
    unfolding from
    from_is e = e ∙ ap (out_start b) front

    pub to_is : {x : ℕ} → x ≡ out_start b (v + 1) → x ≡ to
    unfolding to
    to_is e = e ∙ ap (out_start b) (add-one v ∙ ap suc front)

  pub from-to : from ≤ to
  unfolding from to
  from-to = out-rises b (front_at b t) known

  many : length (out_links b (front_at b t)) ≡ to - from
  unfolding from to s
  many = out-count s known

  -- within the turn the area keeps its length
  pub as_long : {x y i : ℕ} → x ≡ from → y ≡ to → x ≤ i → i ≤ y → {area : List ℕ} → area ≡ laid b a at links (mid_turn b t (i - x))
      → length area ≡ length a
  unfolding s
  as_long {x} {y} {i} start end low up now =
      ap length now
      ∙ length-laid st.index (queued_mid s t more (i - x) (omega (arith, many, start, end)))

  -- ---- one link of the front: the link at place i, after those before it

  module _ {x y : ℕ} (start : x ≡ from) (end : y ≡ to) {i : ℕ} (low : x ≤ i) (high : i < y)
      {area : List ℕ} (now : area ≡ laid b a at links (mid_turn b t (i - x))) where
    here : i - x < length (out_links b (front_at b t))
    here = omega (arith, many, start, end)

    q : Queued b (mid_turn b t (i - x))
    unfolding s
    q = queued_mid s t more (i - x) (omega (arith, here))

    pub inside : i < at.sizes.links
    unfolding to
    inside = omega (arith, out-fits b (suc (front_at b t)) known, end, st.index.linked.read.links)

    pub linked_on : Outgoing b area at.sizes links
    unfolding s
    linked_on =
        subst (λ (m : List ℕ). Outgoing b m at.sizes links) (sym now)
        (linked-laid st.index (mid_turn b t (i - x)) (omega (arith, room s q, nodes)))

    k : ℕ
    k = next_link b t (i - x)

    link-is : link_by b (source_port b) i ≡ k
    unfolding from to k s
    link-is = ap (link_by b (source_port b)) (again x from i start low) ∙ out-is s known (i - x) (omega (arith, start, end))
      where
        again : (x from i : ℕ) → x ≡ from → x ≤ i → i ≡ from + (i - x)
        again x from i e h = omega arith

    k_known : k < L b
    unfolding s k
    k_known = entry_known s (front_at b t) (i - x) here

    k_new : times k (mid_turn b t (i - x)).followed ≡ 0
    unfolding s k
    k_new = mid_new s t more (i - x) here

    next : follow b k (mid_turn b t (i - x)) ≡ mid_turn b t (i + 1 - x)
    unfolding k
    next = sym (mid_next b t (i - x) here) ∙ ap (mid_turn b t) (one_on i x low)
      where
        one_on : (i x : ℕ) → x ≤ i → suc (i - x) ≡ i + 1 - x
        one_on i x h = omega arith

    module _ {grown : ℕ} (count : grown ≡ length (mid_turn b t (i - x)).joined) {w : ℕ} (target : w ≡ out_target b i) where
      w_is : w ≡ link_to b k
      unfolding out_target
      w_is = target ∙ ap (link_to b) link-is

      pub ready : Following area at.order links.end grown w
      unfolding s
      ready =
          subst (λ (m : List ℕ). Following m at.order links.end grown w) (sym now)
          (subst (λ (j : ℕ). Following (laid b a at links (mid_turn b t (i - x))) at.order links.end j w) (sym count)
          (subst (λ (u : ℕ). Following (laid b a at links (mid_turn b t (i - x))) at.order links.end (length (mid_turn b t (i - x)).joined) u) (sym w_is)
          (following st.index q k k_known k_new)))

      pub counted : {r : ℕ} → r ≡ grown + one (eqb (get_or area (links.end + w) 0) 1) → r ≡ length (mid_turn b t (i + 1 - x)).joined
      unfolding s
      counted e =
          e ∙ ap₂ (λ (j : ℕ) (m : List ℕ). j + one (eqb (get_or m (links.end + w) 0) 1)) count now
          ∙ ap (λ (u : ℕ). length (mid_turn b t (i - x)).joined + one (eqb (get_or (laid b a at links (mid_turn b t (i - x))) (links.end + u) 0) 1)) w_is
          ∙ follow-count st.index q k k_known k_new
          ∙ ap (λ (p : Queue). length p.joined) next

      pub followed-on : {r : List ℕ} → r ≡ followed area at.order links.end grown w → r ≡ laid b a at links (mid_turn b t (i + 1 - x))
      unfolding s
      followed-on e =
          e ∙ ap₂ (λ (m : List ℕ) (j : ℕ). followed m at.order links.end j w) now count
          ∙ ap (followed (laid b a at links (mid_turn b t (i - x))) at.order links.end (length (mid_turn b t (i - x)).joined)) w_is
          ∙ follow-laid st.index q k k_known k_new
          ∙ ap (laid b a at links) next

  -- ---- the end of the turn

  pub turned : {x y i : ℕ} → x ≡ from → y ≡ to → x ≤ i → i ≤ y → y ≤ i → mid_turn b t (i - x) ≡ queue_after b (t + 1)
  turned {x} {y} {i} start end low up down =
      ap (mid_turn b t) (all x y i start end low up down ∙ sym many) ∙ mid_end b t more ∙ ap (queue_after b) (sym (add-one t))
    where
      all : (x y i : ℕ) → x ≡ from → y ≡ to → x ≤ i → i ≤ y → y ≤ i → i - x ≡ to - from
      all x y i e f low up down = omega arith
