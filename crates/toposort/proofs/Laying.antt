-- A followed link in the area: the counter of its target is lowered, and the target joins at the link that fills its last input.
-- Rests on order_theory.Queue and lists.Sections.
use Prim.Native.Nat.{ℕ, ◌+◌, ◌-◌, ◌≤◌, ◌<◌}
use native.Mathlib.Decide.{ℕ_discrete}
use native.Mathlib.Omega.{arith}
use borrow.Author.Tests.{eq-eqb, ne_eqb}
use mathlib.Core.Path.{◌≡◌, refl, sym, ap, ◌∙◌}
use mathlib.Core.Logic.{inl, ◌≢◌}
use mathlib.Core.Bool.{Bool, true, false, cond}
use mathlib.Core.List.{List, [], ◌∷◌, ◌++◌, append-nil}
use lib.ListN.{length, get_or, set, length-append}
use lib.Seq.{sets, length-sets}
use lib.Dec.{eqb}
use Rattle.lists.specs.Lists.{one, times}
use Rattle.lists.proofs.Sections.{get_or-sets_in, set-sets_in, set-sets-out, sets_snoc}
use Rattle.lists.proofs.Upto.{length-table, get_or-table, set-table, count-append}
use Rattle.lists.proofs.Count.{one_eq, one_ne}
use Rattle.paper.specs.Map.{N, L, link_to, in_links}
use Rattle.paper.specs.Order.{Queue, fills_last, follow}
use Rattle.order_theory.specs.Sound.{Sound}
use Rattle.order_theory.specs.Queued.{Queued, filled}
use Rattle.order_theory.proofs.Queue.{spare, spare_room}
use Rattle.order_theory.proofs.Refusals.{sound}
use Rattle.toposort.specs.Queue.{Counters, Following, lowered, followed}
use Rattle.tables.specs.declared.Layout.{Layout}
use Rattle.tables.specs.Within.{Within}
use Rattle.tables.proofs.Within.{within_none, within-sets}
use Rattle.neighbours.specs.Linked.{Outgoing}
use Rattle.neighbours.specs.declared.Listing.{Listing}
use Rattle.neighbours.proofs.Keeping.{linked-kept, linked-behind}
use Rattle.toposort.specs.Standing.{Indexed, open_inputs, laid}

pub length_open : (b : List ℕ) (n : ℕ) (links : List ℕ) → length (open_inputs b n links) ≡ n
unfolding open_inputs
length_open b n links = length-table (λ w. length (in_links b w) - filled b links w) n

-- one of the links to a node is left exactly if one more fills it
one_left : (f l : ℕ) → f < l → eqb (f + 1) l ≡ eqb (l - f) 1
one_left f l h = go (ℕ_discrete (f + 1) l)
  where
    go : Dec (f + 1 ≡ l) → eqb (f + 1) l ≡ eqb (l - f) 1
    go (yes e) = eq-eqb (f + 1) l e ∙ sym (eq-eqb (l - f) 1 (omega arith))
    go (no ne) = ne_eqb (f + 1) l ne ∙ sym (ne_eqb (l - f) 1 (λ e. ne (omega arith)))

-- the links stand under a queue and its counters
pub linked-laid : {b a : List ℕ} {at : Layout} {links : Listing} → Indexed b a at links → (q : Queue) → length q.joined ≤ at.sizes.nodes
    → Outgoing b (laid b a at links q) at.sizes links
unfolding laid
linked-laid {b} {a} {at} {links} index q few =
    linked-behind (linked-kept index.linked joined index.before) counters (omega arith)
  where
    joined : Within at.order at.sizes.nodes a (sets a at.order q.joined)
    joined = within-sets within_none at.order q.joined (omega arith) (omega arith)

    counters : Within links.end at.sizes.nodes (sets a at.order q.joined) (sets (sets a at.order q.joined) links.end (open_inputs b at.sizes.nodes q.followed))
    counters =
        within-sets within_none links.end (open_inputs b at.sizes.nodes q.followed) (omega arith)
        (omega (arith, length_open b at.sizes.nodes q.followed))

module _ {b a : List ℕ} {at : Layout} {links : Listing} (index : Indexed b a at links) where
  pub is-sound : Sound b
  is-sound = sound b index.linked.links

  pub counters-ready : Counters a at.order links.end at.sizes.nodes
  counters-ready =
      record {
        apart = omega (arith, index.before, index.linked);
        fits = index.room;
        small = omega (arith, index.linked.read.few-nodes);
      }

module _ {b a : List ℕ} {at : Layout} {links : Listing} (index : Indexed b a at links) {q : Queue} (queued : Queued b q) where
  abbrev s : Sound b
  s = is-sound index

  abbrev nodes : N b ≡ at.sizes.nodes
  nodes = index.linked.read.nodes

  abbrev ready : Counters a at.order links.end at.sizes.nodes
  ready = counters-ready index

  pub length-laid : length (laid b a at links q) ≡ length a
  unfolding laid
  length-laid =
      length-sets (sets a at.order q.joined) links.end (open_inputs b at.sizes.nodes q.followed) ∙ length-sets a at.order q.joined

  pub counter_is : {w : ℕ} → w < at.sizes.nodes → get_or (laid b a at links q) (links.end + w) 0 ≡ length (in_links b w) - filled b q.followed w
  unfolding laid open_inputs
  counter_is {w} h =
      get_or-sets_in (sets a at.order q.joined) links.end (open_inputs b at.sizes.nodes q.followed) w 0 (omega (arith, length_open b at.sizes.nodes q.followed))
      (omega (arith, length_open b at.sizes.nodes q.followed, length-sets a at.order q.joined, ready.fits))
      ∙ get_or-table (λ v. length (in_links b v) - filled b q.followed v) at.sizes.nodes w 0 h

  module _ (k : ℕ) (h : k < L b) (new : times k q.followed ≡ 0) where
    w : ℕ
    w = link_to b k

    known : w < at.sizes.nodes
    unfolding w
    known = omega (arith, s.target k h, nodes)

    c : ℕ
    c = length (in_links b w) - filled b q.followed w

    counter : get_or (laid b a at links q) (links.end + w) 0 ≡ c
    unfolding c
    counter = counter_is known

    some : 1 ≤ c
    unfolding c w
    some = omega (arith, spare s queued k h new)

    pub following : Following (laid b a at links q) at.order links.end (length q.joined) (link_to b k)
    unfolding w
    following =
        record {
          room = omega (arith, spare_room s queued k h new, nodes, ready.apart);
          fits = omega (arith, known, length-laid, ready.fits);
          small = omega (arith, known, ready.small);
          some = omega (arith, counter, some);
        }

    -- one link more to the target, and to no other node
    one_more : filled b (q.followed ++ (k ∷ [])) w ≡ filled b q.followed w + 1
    unfolding w
    one_more = omega (arith, count-append (λ j. eqb (link_to b j) (link_to b k)) q.followed (k ∷ []), one_eq (link_to b k) (link_to b k) refl)

    no_more : (v : ℕ) → v ≢ w → filled b (q.followed ++ (k ∷ [])) v ≡ filled b q.followed v
    unfolding w
    no_more v ne = omega (arith, count-append (λ j. eqb (link_to b j) v) q.followed (k ∷ []), one_ne (link_to b k) v (λ e. ne (sym e)))

    -- the counter is 1 exactly at the link that fills the last input
    last-is : fills_last b q.followed k ≡ eqb c 1
    unfolding fills_last w c
    last-is =
        ap (λ (x : ℕ). eqb x (length (in_links b w))) one_more
        ∙ one_left (filled b q.followed w) (length (in_links b w)) (spare s queued k h new)

    lowered_is : lowered (laid b a at links q) links.end w ≡ sets (sets a at.order q.joined) links.end (open_inputs b at.sizes.nodes (q.followed ++ (k ∷ [])))
    unfolding lowered laid open_inputs c
    lowered_is =
        ap (λ (x : ℕ). set (laid b a at links q) (links.end + w) (x - 1)) counter
        ∙ set-sets_in (sets a at.order q.joined) links.end (open_inputs b at.sizes.nodes q.followed) w (c - 1) (omega (arith, known, length_open b at.sizes.nodes q.followed))
        ∙ ap (sets (sets a at.order q.joined) links.end)
        (set-table (λ v. length (in_links b v) - filled b q.followed v) (λ v. length (in_links b v) - filled b (q.followed ++ (k ∷ [])) v) at.sizes.nodes w
        (c - 1) known (omega (arith, one_more)) (λ v l ne. ap (λ (x : ℕ). length (in_links b v) - x) (no_more v ne)))

    pub follow-laid : followed (laid b a at links q) at.order links.end (length q.joined) (link_to b k) ≡ laid b a at links (follow b k q)
    unfolding followed w follow laid
    follow-laid =
        ap (λ (x : ℕ). cond (eqb x 1) (set low (at.order + length q.joined) w) low) counter
        ∙ ap (λ (t : Bool). cond t (set low (at.order + length q.joined) w) low) (sym last-is)
        ∙ go (fills_last b q.followed k)
      where
        low : List ℕ
        low = lowered (laid b a at links q) links.end w

        go : (t : Bool) → cond t (set low (at.order + length q.joined) w) low
            ≡ laid b a at links (record { joined = q.joined ++ cond t (w ∷ []) []; followed = q.followed ++ (k ∷ []) })
        go true =
            ap (λ (m : List ℕ). set m (at.order + length q.joined) w) lowered_is
            ∙ set-sets-out (sets a at.order q.joined) links.end (open_inputs b at.sizes.nodes (q.followed ++ (k ∷ []))) (at.order + length q.joined) w
            (inl (omega (arith, spare_room s queued k h new, nodes, ready.apart)))
            ∙ ap (λ (m : List ℕ). sets m links.end (open_inputs b at.sizes.nodes (q.followed ++ (k ∷ [])))) (sym (sets_snoc a at.order q.joined w))
        go false =
            lowered_is
            ∙ ap (λ (m : List ℕ). sets (sets a at.order m) links.end (open_inputs b at.sizes.nodes (q.followed ++ (k ∷ [])))) (sym (append-nil q.joined))

    pub follow-count : length q.joined + one (eqb (get_or (laid b a at links q) (links.end + link_to b k) 0) 1) ≡ length (follow b k q).joined
    unfolding follow w
    follow-count =
        ap (λ (x : ℕ). length q.joined + one (eqb x 1)) counter
        ∙ ap (λ (t : Bool). length q.joined + one t) (sym last-is)
        ∙ go (fills_last b q.followed k)
      where
        go : (t : Bool) → length q.joined + one t ≡ length (q.joined ++ cond t (w ∷ []) [])
        go true = sym (length-append q.joined (w ∷ []))
        go false = sym (length-append q.joined [])
