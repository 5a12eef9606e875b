-- From one distance to the next: what joined in a round are the steps one farther.
-- Rests on Joining, path_theory (Levels, Neighbours, Alike) and lists.
use Prim.Native.Nat.{ℕ, suc, ◌+◌, ◌-◌, ◌≤◌, ◌<◌}
use native.Mathlib.Decide.{dec_lt, ℕ_discrete}
use native.Mathlib.Numerals.{add-one}
use native.Mathlib.Nat.{add-zero, sub-zero}
use native.Mathlib.Omega.{arith}
use mathlib.Core.Path.{◌≡◌, refl, sym, ap, ap₂, ◌∙◌}
use mathlib.Core.Bool.{Bool, true, false, ◌&&◌, ◌||◌, not, and-true, and-false, or-false}
use mathlib.Core.List.{List, ◌++◌}
use lib.ListN.{take, drop}
use lib.Seq.{take-add, drop-drop}
use lib.Dec.{eqb}
use borrow.Author.Tests.{eq-eqb, ne_eqb}
use Rattle.lists.specs.Lists.{one, member, times}
use Rattle.lists.proofs.Sections.{part}
use Rattle.lists.proofs.Upto.{count-append}
use Rattle.lists.proofs.Members.{times-member}
use Rattle.paper.specs.Map.{N}
use Rattle.paper.specs.Path.{leads, fed_by, rounds, level_at}
use Rattle.order_theory.specs.Sound.{Sound}
use Rattle.convexity_theory.proofs.Memberships.{member_in}
use Rattle.path_theory.proofs.levels.Levels.{fed_by_lem, level_zero, met_zero, met_next, level-member, level-next}
use Rattle.path_theory.proofs.levels.Neighbours.{fed_out}
use Rattle.path_theory.proofs.levels.Alike.{any_alike}
use Rattle.distances.specs.declared.queue.Queue.{Queue}
use Rattle.distances.specs.Met.{tells, ListMarked, Joins}
use Rattle.distances.specs.Reached.{Reached, targets_in}
use Rattle.distances.proofs.Joining.{member-append, member-join_all, joins_rise, joins-keep}

-- ---- tests

-- a test that cannot pass
untrue : (t : Bool) → (t ≡ true → ⊥) → t ≡ false
untrue true h = absurd (h refl)
untrue false h = refl

-- those that were there or are new
or_new : (old some : Bool) → (old || some) ≡ (old || (some && not old))
or_new true some = refl
or_new false some = sym (and-true some)

-- ---- at the start

module _ {a : List ℕ} {queue : Queue} {count : ℕ} {m : List ℕ} (marked : ListMarked a queue count m) where
  tells-near : (u e : ℕ) → u < queue.nodes → tells m queue u e ≡ (member u (part m queue.start count) && eqb 0 e)
  unfolding tells
  tells-near u e h = rw (marked.met.marks u h, marked.near u h) (ap (λ (t : Bool). t && eqb 0 e) (mark (member u (part m queue.start count))))
    where
      mark : (t : Bool) → not (eqb (one t) 0) ≡ t
      mark true = refl
      mark false = refl

  -- distance 0: the list itself
  pub begins : {b : List ℕ} → Reached b (part m queue.start count) m queue 0 count 0
  begins {b} =
      record {
        met = marked.met;
        told =
            record {
              level = λ e u l h.
                  tells-near u e h ∙ ap (λ (t : Bool). member u (part m queue.start count) && t) (eq-eqb 0 e (omega arith))
                  ∙ and-true (member u (part m queue.start count)) ∙ at_zero e u (omega arith);
            };
        beyond = λ e u l h.
            tells-near u e h ∙ ap (λ (t : Bool). member u (part m queue.start count) && t) (ne_eqb 0 e (λ z. omega arith))
            ∙ and-false (member u (part m queue.start count));
        last = λ u. ap (member u) (whole queue.start count) ∙ at_zero 0 u refl;
        all = λ u. ap (member u) (sym (met_zero b (part m queue.start count)));
        rises = omega arith;
        deep = omega arith;
      }
    where
      whole : (q c : ℕ) → part m (q + 0) (c - 0) ≡ part m q c
      whole q c = ap₂ (part m) (add-zero q) (sub-zero c)

      at_zero : (e u : ℕ) → e ≡ 0 → member u (part m queue.start count) ≡ member u (level_at b (part m queue.start count) e)
      at_zero e u z = ap (member u) (sym (level_zero b (part m queue.start count)) ∙ ap (level_at b (part m queue.start count)) (sym z))

-- ---- what the last ones are linked to

module _ {b list a : List ℕ} {queue : Queue} {from to d : ℕ} (s : Sound b) (nodes : N b ≡ queue.nodes) (r : Reached b list a queue from to d) where
  pub fed_are : (u : ℕ) → member u (targets_in b a queue.start from to) ≡ fed_by b (level_at b list d) u
  unfolding targets_in fed_by
  fed_are u =
      sym (fed_out s (part a (queue.start + from) (to - from)) u)
      ∙ any_alike (λ w. leads b w u) (part a (queue.start + from) (to - from)) (level_at b list d) r.last

  pub fed_known : (u : ℕ) → member u (targets_in b a queue.start from to) ≡ true → u < queue.nodes
  fed_known u e =
      let f = fed_by_lem b (level_at b list d) u (sym (fed_are u) ∙ e) in
      omega (arith, s.target f.linked.link f.linked.known, f.linked.target)

  -- those that were not met are one farther
  new_are : (u : ℕ) → (member u (targets_in b a queue.start from to) && not (member u (part a queue.start to))) ≡ member u (level_at b list (suc d))
  new_are u = go (dec_lt u queue.nodes)
    where
      go : Dec (u < queue.nodes) → (member u (targets_in b a queue.start from to) && not (member u (part a queue.start to))) ≡ member u (level_at b list (suc d))
      go (yes h) =
          ap₂ (λ (fed met : Bool). fed && not met) (fed_are u) (r.all u) ∙ sym (level-member b list d u (omega arith))
      go (no h) =
          ap (λ (t : Bool). t && not (member u (part a queue.start to))) (untrue (member u (targets_in b a queue.start from to)) (λ e. h (fed_known u e)))
          ∙ sym (untrue (member u (level_at b list (suc d))) (λ e. h (omega (arith, (level-next b list d u (member_in u (level_at b list (suc d)) e)).known))))

  -- ---- a round

  module _ {grown : ℕ} {m : List ℕ} (j : Joins a queue to (targets_in b a queue.start from to) (d + 1) grown m) where
    met_are : (u : ℕ) → member u (part m queue.start grown) ≡ (member u (part a queue.start to) || member u (targets_in b a queue.start from to))
    met_are u = ap (member u) j.whole ∙ member-join_all u (part a queue.start to) (targets_in b a queue.start from to)

    -- those before, and those that joined
    split : part m queue.start grown ≡ part a queue.start to ++ part m (queue.start + to) (grown - to)
    split =
        let both : grown ≡ to + (grown - to) = omega (arith, joins_rise r.met j) in
        ap (λ (k : ℕ). take k (drop queue.start m)) both ∙ take-add to (grown - to) (drop queue.start m)
        ∙ ap₂ (λ (xs ys : List ℕ). xs ++ take (grown - to) ys) (joins-keep r.met j to (omega arith)) (drop-drop to queue.start m)

    last_are : (u : ℕ) → member u (part m (queue.start + to) (grown - to)) ≡ (member u (targets_in b a queue.start from to) && not (member u (part a queue.start to)))
    last_are u =
        go (member u (part a queue.start to)) (member u (part m (queue.start + to) (grown - to))) (member u (targets_in b a queue.start from to)) refl refl
        (sym (member-append u (part a queue.start to) (part m (queue.start + to) (grown - to))) ∙ ap (member u) (sym split) ∙ met_are u)
      where
        both : times u (part a queue.start to) + times u (part m (queue.start + to) (grown - to)) ≤ 1
        both =
            omega (
              arith,
              j.met.nodes.once u,
              ap (times u) split,
              count-append (eqb u) (part a queue.start to) (part m (queue.start + to) (grown - to)),
            )

        few : one (member u (part a queue.start to)) + one (member u (part m (queue.start + to) (grown - to))) ≤ 1
        few =
            omega (
              arith,
              both,
              times-member u (part a queue.start to) (omega (arith, both)),
              times-member u (part m (queue.start + to) (grown - to)) (omega (arith, both)),
            )

        go : (old new fed : Bool) → member u (part a queue.start to) ≡ old → member u (part m (queue.start + to) (grown - to)) ≡ new → (old || new) ≡ (old || fed)
            → new ≡ (fed && not old)
        go true true fed e f g = absurd (omega (arith, few, ap one e, ap one f))
        go true false fed e f g = sym (and-false fed)
        go false new fed e f g = g ∙ sym (and-true fed)

    told_are : (u e : ℕ) → u < queue.nodes → tells m queue u e ≡ (tells a queue u e || (member u (level_at b list (suc d)) && eqb (d + 1) e))
    told_are u e h =
        j.told u e h ∙ ap (λ (t : Bool). tells a queue u e || (t && eqb (d + 1) e)) (new_are u)

    away : (u e : ℕ) → u < queue.nodes → (d + 1 ≡ e → ⊥) → tells m queue u e ≡ tells a queue u e
    away u e h ne =
        told_are u e h ∙ ap (λ (t : Bool). tells a queue u e || (member u (level_at b list (suc d)) && t)) (ne_eqb (d + 1) e ne)
        ∙ ap (λ (t : Bool). tells a queue u e || t) (and-false (member u (level_at b list (suc d)))) ∙ or-false (tells a queue u e)

    level_are : (e u : ℕ) → e ≤ d + 1 → u < queue.nodes → tells m queue u e ≡ member u (level_at b list e)
    level_are e u l h = go (ℕ_discrete (d + 1) e)
      where
        go : Dec (d + 1 ≡ e) → tells m queue u e ≡ member u (level_at b list e)
        go (yes z) =
            told_are u e h
            ∙ ap₂ (λ (s t : Bool). s || (member u (level_at b list (suc d)) && t)) (r.beyond e u (omega arith) h) (eq-eqb (d + 1) e z)
            ∙ and-true (member u (level_at b list (suc d))) ∙ ap (λ (k : ℕ). member u (level_at b list k)) (sym (add-one d) ∙ z)
        go (no ne) = away u e h ne ∙ r.told.level e u (omega arith) h

    pub reaches : from < to → Reached b list m queue to grown (d + 1)
    reaches some =
        record {
          met = j.met;
          told = record { level = level_are };
          beyond = λ e u l h. away u e h (λ z. omega arith) ∙ r.beyond e u (omega arith) h;
          last = λ u. last_are u ∙ new_are u ∙ ap (λ (k : ℕ). member u (level_at b list k)) (sym (add-one d));
          all = λ u.
              met_are u ∙ or_new (member u (part a queue.start to)) (member u (targets_in b a queue.start from to))
              ∙ ap₂ ◌||◌ (r.all u) (new_are u)
              ∙ sym (member-append u (rounds b list d).met (level_at b list (suc d)))
              ∙ ap (member u) (sym (met_next b list d)) ∙ ap (λ (k : ℕ). member u (rounds b list k).met) (sym (add-one d));
          rises = joins_rise r.met j;
          deep = omega (arith, r.deep);
        }
