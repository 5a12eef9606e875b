-- 01's walk, which keeps repeats, and the walk with marks go together: after every step of the one there is a turn of the other
-- at which both have counted the same, and what is left of the queue, each node once, is what joined and was not taken.
-- Rests on Join and Entries.
use Prim.Native.Nat.{ℕ, zero, suc, ◌+◌, ◌-◌, ◌≤◌}
use native.Mathlib.Omega.{arith}
use mathlib.Core.Path.{◌≡◌, refl, sym, ap, ap₂, ◌∙◌, subst⁻¹}
use mathlib.Core.Bool.{Bool, true, false, ◌||◌, or-true, true≢false}
use mathlib.Core.List.{List, [], ◌∷◌, ◌++◌, flat_map}
use lib.ListN.{length, length-append, length-map}
use lib.Dec.{eqb, ltb}
use borrow.Author.Tests.{eq-eqb, eqb-true, lt-ltb}
use Rattle.lists.specs.Lists.{one, member, times}
use Rattle.lists.proofs.Compare.{once_more}
use Rattle.lists.proofs.Members.{times-member}
use Rattle.lists.proofs.Tests.{or_false_both}
use Rattle.paper.specs.Map.{link_to, out_links, out_neighbours}
use Rattle.paper.specs.Area.{position}
use Rattle.paper.specs.Intervals.{Interval}
use Rattle.paper.specs.Walk.{M, start_nodes, stands_below, Walk, visit, step, walk_after}
use Rattle.walk_theory.specs.Marked.{join_all, Marked, visit_marked, turn_marked, marked_after}
use Rattle.walk_theory.proofs.Join.{
  length_snoc,
  member_snoc,
  join_old,
  join-new,
  join_all-append,
  next-there,
  next-is,
}
use Rattle.walk_theory.proofs.Entries.{starts-few}

module _ (b a : List ℕ) (rs : List Interval) where
  abbrev above : ℕ → Bool
  above v = ltb (M rs) (position b a v)

  -- after step s, before the answer is no
  pub record Going (s : ℕ) (queue : List ℕ) : Type 0 where
    pub counted : List ℕ
    pub taken : List ℕ
    pub walked : walk_after b a rs s ≡ Walk.going queue counted
    pub marked : marked_after b a rs (length taken) ≡ Marked.going (join_all taken queue) (length counted)
    -- who was taken is skipped from now on, and only who was taken is counted
    pub skips : (v : ℕ) → member v taken ≡ true → (above v || member v counted) ≡ true
    pub new : (v : ℕ) → member v taken ≡ false → member v counted ≡ false
    pub once : (v : ℕ) → times v counted ≤ 1
    -- a step for each node that enters the queue is enough
    pub room : length queue ≤ length rs + length (flat_map (out_links b) counted) - s

  pub data Together (s : ℕ) : Type 0 where
    both_go : (queue : List ℕ) → Going s queue → Together s
    both_stop : (t : ℕ) (counted : List ℕ) → walk_after b a rs s ≡ Walk.stopped counted
        → marked_after b a rs t ≡ Marked.stopped (length counted) → Together s

  -- ---- one node, on either side

  module _ (v : ℕ) (queue counted : List ℕ) where
    visit_skips : (above v || member v counted) ≡ true → visit b a rs v queue counted ≡ Walk.going queue counted
    unfolding visit
    visit_skips e = rw e

    visit-stops : (above v || member v counted) ≡ false → stands_below b a rs v ≡ true
        → visit b a rs v queue counted ≡ Walk.stopped (v ∷ counted)
    unfolding visit
    visit-stops e q = rw (e, q)

    visit_goes : (above v || member v counted) ≡ false → stands_below b a rs v ≡ false
        → visit b a rs v queue counted ≡ Walk.going (queue ++ out_neighbours b v) (v ∷ counted)
    unfolding visit
    visit_goes e q = rw (e, q)

  module _ (v : ℕ) (joined : List ℕ) (n : ℕ) where
    marked_skips : above v ≡ true → visit_marked b a rs v joined n ≡ Marked.going joined n
    unfolding visit_marked
    marked_skips e = rw e

    marked-stops : above v ≡ false → stands_below b a rs v ≡ true → visit_marked b a rs v joined n ≡ Marked.stopped (suc n)
    unfolding visit_marked
    marked-stops e q = rw (e, q)

    marked_goes : above v ≡ false → stands_below b a rs v ≡ false
        → visit_marked b a rs v joined n ≡ Marked.going (join_all joined (out_neighbours b v)) (suc n)
    unfolding visit_marked
    marked_goes e q = rw (e, q)

  -- the turn that takes v, which has not been taken
  turn_takes : (taken : List ℕ) (v : ℕ) (queue : List ℕ) (n : ℕ) → member v taken ≡ false
      → marked_after b a rs (length taken) ≡ Marked.going (join_all taken (v ∷ queue)) n
      → marked_after b a rs (length (taken ++ (v ∷ []))) ≡ visit_marked b a rs v (join_all (taken ++ (v ∷ [])) queue) n
  unfolding marked_after turn_marked join_all
  turn_takes taken v queue n new e =
      ap (marked_after b a rs) (length_snoc taken v)
      ∙ ap (turn_marked b a rs (length taken)) (e ∙ ap (λ (l : List ℕ). Marked.going (join_all l queue) n) (join-new taken v new))
      ∙ rw (lt-ltb _ _ (next-there taken v queue)) (ap (λ (u : ℕ). visit_marked b a rs u (join_all (taken ++ (v ∷ [])) queue) n) (next-is taken v queue))

  -- ---- one step

  -- "Queue empty": nothing changes
  next-empty : {s : ℕ} → Going s [] → Together (suc s)
  unfolding walk_after step
  next-empty g =
      both_go []
      record {
        counted = g.counted;
        taken = g.taken;
        walked = ap (step b a rs) g.walked;
        marked = g.marked;
        skips = g.skips;
        new = g.new;
        once = g.once;
        room = omega arith;
      }

  module _ {s v : ℕ} {queue : List ℕ} (g : Going s (v ∷ queue)) where
    walked_next : walk_after b a rs (suc s) ≡ visit b a rs v queue g.counted
    unfolding walk_after step
    walked_next = ap (step b a rs) g.walked

    -- a node that was taken before: skipped there, and no turn here
    next_old : member v g.taken ≡ true → Together (suc s)
    unfolding join_all
    next_old old =
        both_go queue
        record {
          counted = g.counted;
          taken = g.taken;
          walked = walked_next ∙ visit_skips v queue g.counted (g.skips v old);
          marked = g.marked ∙ ap (λ (l : List ℕ). Marked.going (join_all l queue) (length g.counted)) (join_old g.taken v old);
          skips = g.skips;
          new = g.new;
          once = g.once;
          room = omega (arith, g.room);
        }

    -- ---- a node that was not taken before

    module _ (fresh : member v g.taken ≡ false) where
      abbrev taken' : List ℕ
      taken' = g.taken ++ (v ∷ [])

      marked_next : marked_after b a rs (length taken') ≡ visit_marked b a rs v (join_all taken' queue) (length g.counted)
      marked_next = turn_takes g.taken v queue (length g.counted) fresh g.marked

      -- who is taken now
      now_taken : (P : ℕ → Type 0) → ((u : ℕ) → member u g.taken ≡ true → P u) → P v → (u : ℕ) → member u taken' ≡ true → P u
      now_taken P before here u e = go (member u g.taken) refl
        where
          go : (t : Bool) → member u g.taken ≡ t → P u
          go true q = before u q
          go false q =
              subst⁻¹ P (eqb-true u v (ap (λ (t : Bool). t || eqb u v) (sym q) ∙ sym (member_snoc u g.taken v) ∙ e)) here

      not_taken : (u : ℕ) → member u taken' ≡ false → (member u g.taken ≡ false) × (eqb u v ≡ false)
      not_taken u e = or_false_both (member u g.taken) (eqb u v) (sym (member_snoc u g.taken v) ∙ e)

      next-above : above v ≡ true → Together (suc s)
      next-above high =
          both_go queue
          record {
            counted = g.counted;
            taken = taken';
            walked = walked_next ∙ visit_skips v queue g.counted (skipped v high);
            marked = marked_next ∙ marked_skips v (join_all taken' queue) (length g.counted) high;
            skips = now_taken (λ u. (above u || member u g.counted) ≡ true) g.skips (skipped v high);
            new = λ u e. g.new u (not_taken u e).0;
            once = g.once;
            room = omega (arith, g.room);
          }
        where
          skipped : (u : ℕ) → above u ≡ true → (above u || member u g.counted) ≡ true
          skipped u e = rw e

      module _ (low : above v ≡ false) where
        -- 01's walk visits it too
        visited : (above v || member v g.counted) ≡ false
        visited = rw low (g.new v fresh)

        next-stops : stands_below b a rs v ≡ true → Together (suc s)
        next-stops under =
            both_stop (length taken') (v ∷ g.counted) (walked_next ∙ visit-stops v queue g.counted visited under)
            (marked_next ∙ marked-stops v (join_all taken' queue) (length g.counted) low under)

        next_goes : stands_below b a rs v ≡ false → Together (suc s)
        unfolding out_neighbours flat_map
        next_goes clear =
            both_go (queue ++ out_neighbours b v)
            record {
              counted = v ∷ g.counted;
              taken = taken';
              walked = walked_next ∙ visit_goes v queue g.counted visited clear;
              marked =
                  marked_next ∙ marked_goes v (join_all taken' queue) (length g.counted) low clear
                  ∙ ap (λ (l : List ℕ). Marked.going l (suc (length g.counted))) (sym (join_all-append taken' queue (out_neighbours b v)));
              skips =
                  now_taken (λ u. (above u || member u (v ∷ g.counted)) ≡ true)
                  (λ u e. still (above u) (eqb u v) (member u g.counted) (g.skips u e)) now_counted;
              new = λ u e. ap₂ ◌||◌ (not_taken u e).1 (g.new u (not_taken u e).0);
              once = once_more v g.counted (omega (arith, times-member v g.counted (g.once v), ap one (g.new v fresh))) g.once;
              room =
                  omega
                  (arith, g.room, length-append queue (out_neighbours b v), length-map (out_links b v) (link_to b), length-append (out_links b v) (flat_map (out_links b) g.counted));
            }
          where
            still : (x y z : Bool) → (x || z) ≡ true → (x || (y || z)) ≡ true
            still true y z e = refl
            still false true z e = refl
            still false false z e = e

            now_counted : (above v || (eqb v v || member v g.counted)) ≡ true
            now_counted = rw (eq-eqb v v refl) (or-true (above v))

  next : (s : ℕ) (queue : List ℕ) → Going s queue → Together (suc s)
  next s [] g = next-empty g
  next s (v ∷ queue) g = taken_yet (member v g.taken) refl
    where
      stands : (t : Bool) → stands_below b a rs v ≡ t → member v g.taken ≡ false → above v ≡ false → Together (suc s)
      stands true under fresh low = next-stops g fresh low under
      stands false clear fresh low = next_goes g fresh low clear

      height : (t : Bool) → above v ≡ t → member v g.taken ≡ false → Together (suc s)
      height true high fresh = next-above g fresh high
      height false low fresh = stands (stands_below b a rs v) refl fresh low

      taken_yet : (t : Bool) → member v g.taken ≡ t → Together (suc s)
      taken_yet true old = next_old g old
      taken_yet false fresh = height (above v) refl fresh

  -- ---- every step

  pub together : (s : ℕ) → Together s
  unfolding walk_after step marked_after flat_map
  together zero =
      both_go (start_nodes b a rs)
      record {
        counted = [];
        taken = [];
        walked = refl;
        marked = refl;
        skips = λ v e. absurd (true≢false (sym e));
        new = λ v e. refl;
        once = λ v. omega arith;
        room = omega (arith, starts-few b a rs);
      }
  together (suc s) = go (together s)
    where
      go : Together s → Together (suc s)
      go (both_go queue g) = next s queue g
      go (both_stop t counted walked marked) = both_stop t counted (ap (step b a rs) walked) marked
