-- 01's walk, step by step, from records that fit a list: what it holds of its queue and of the nodes counted (specs/Walked).
-- Rests on Borders and Paths.
use Prim.Native.Nat.{ℕ, zero, suc}
use mathlib.Core.Path.{◌≡◌, refl, sym, ◌∙◌, subst}
use mathlib.Core.Logic.{◌⊎◌, inl, inr}
use mathlib.Core.Bool.{Bool, true, false, ◌||◌, cond, true≢false}
use mathlib.Core.List.{List, [], ◌∷◌, ◌++◌}
use lib.Dec.{ltb}
use borrow.Author.Tests.{ltb-true, ltb-false}
use Rattle.lists.specs.Lists.{member, In}
use Rattle.paper.specs.Map.{out_neighbours}
use Rattle.paper.specs.Area.{position}
use Rattle.paper.specs.Intervals.{Interval}
use Rattle.paper.specs.Walk.{M, stands_below, Walk, going, stopped, visit, step, walk_after}
use Rattle.paper.specs.Plain.{Linked, link}
use Rattle.order_theory.specs.Sound.{Sound}
use Rattle.convexity_theory.specs.Lined.{Lined}
use Rattle.convexity_theory.specs.Fits.{Fits}
use Rattle.convexity_theory.specs.Walked.{Beyond, Counted, Passed, Seen, Going, Halted}
use Rattle.convexity_theory.proofs.Memberships.{in_left, in_right, in_either, in_member, member_in}
use Rattle.convexity_theory.proofs.Paths.{joined, neighbour_linked, linked_neighbour}
use Rattle.convexity_theory.proofs.Borders.{enters, start-beyond}

-- what holds of the walk
abbrev pub Holds : List ℕ → List ℕ → List ℕ → List Interval → Walk → Type 0
Holds b a list rs (going queue counted) = Going b a list rs queue counted
Holds b a list rs (stopped counted) = Halted b a list rs counted

module _ {b a : List ℕ} (s : Sound b) (lined : Lined b a) (list : List ℕ) (rs : List Interval) (fits : Fits b a list rs) where
  -- the neighbours of a node that passed are beyond the list too
  further : (u v : ℕ) → Passed b a list rs u → Linked b u v → Beyond b list v
  further u v p e =
      let reached = p.counted.beyond.reached in
      record {
        outside = λ i. true≢false (sym (enters lined fits u v e p.counted.beyond.outside i).stands ∙ p.clear);
        reached = (reached.0, reached.1, joined reached.2 (link e));
      }

  module _ (v : ℕ) (queue counted : List ℕ) (g : Going b a list rs (v ∷ queue) counted) where
    -- "skip a node above M or seen before"
    skip : (above old : Bool) → ltb (M rs) (position b a v) ≡ above → member v counted ≡ old → (above || old) ≡ true → Going b a list rs queue counted
    skip above old p q e =
        record {
          once = g.once;
          waiting = λ x i. g.waiting x (inr i);
          passed = g.passed;
          starts = λ x i. still x (g.starts x i);
          onward = λ u w i l. still w (g.onward u w i l);
        }
      where
        there : (above old : Bool) → ltb (M rs) (position b a v) ≡ above → member v counted ≡ old → (above || old) ≡ true → Seen b a rs queue counted v
        there true old p q e = inr (inr (ltb-true (M rs) (position b a v) p))
        there false true p q e = inr (inl (member_in v counted q))
        there false false p q e = absurd (true≢false (sym e))

        still : (x : ℕ) → Seen b a rs (v ∷ queue) counted x → Seen b a rs queue counted x
        still x (inl (inl d)) = subst (Seen b a rs queue counted) (sym d) (there above old p q e)
        still x (inl (inr i)) = inl i
        still x (inr seen) = inr seen

    module _ (low : ltb (M rs) (position b a v) ≡ false) (new : member v counted ≡ false) where
      fresh : In v counted → ⊥
      fresh i = true≢false (sym (in_member v counted i) ∙ new)

      count : Counted b a list rs v
      count = record { beyond = g.waiting v (inl refl); no_higher = ltb-false (M rs) (position b a v) low }

      -- "if it stands below a record's lowest on one of its lines, no"
      stop : stands_below b a rs v ≡ true → Halted b a list rs (v ∷ counted)
      stop e =
          record {
            last = v;
            earlier = counted;
            whole = refl;
            once = (fresh, g.once);
            last_counted = count;
            stands = e;
            passed = g.passed;
          }

      -- "else append its output neighbours"
      go_on : stands_below b a rs v ≡ false → Going b a list rs (queue ++ out_neighbours b v) (v ∷ counted)
      go_on e =
          record {
            once = (fresh, g.once);
            waiting = λ x i. waits x (in_either x queue (out_neighbours b v) i);
            passed = passes;
            starts = λ x i. still x (g.starts x i);
            onward = next;
          }
        where
          here : Passed b a list rs v
          here = record { counted = count; clear = e }

          waits : (x : ℕ) → In x queue ⊎ In x (out_neighbours b v) → Beyond b list x
          waits x (inl i) = g.waiting x (inr i)
          waits x (inr i) = further v x here (neighbour_linked s v x i)

          passes : (x : ℕ) → In x (v ∷ counted) → Passed b a list rs x
          passes x (inl d) = subst (Passed b a list rs) (sym d) here
          passes x (inr i) = g.passed x i

          still : (x : ℕ) → Seen b a rs (v ∷ queue) counted x → Seen b a rs (queue ++ out_neighbours b v) (v ∷ counted) x
          still x (inl (inl d)) = inr (inl (inl d))
          still x (inl (inr i)) = inl (in_left x queue (out_neighbours b v) i)
          still x (inr (inl i)) = inr (inl (inr i))
          still x (inr (inr h)) = inr (inr h)

          next : (u w : ℕ) → In u (v ∷ counted) → Linked b u w → Seen b a rs (queue ++ out_neighbours b v) (v ∷ counted) w
          next u w (inl d) l = inl (in_right w queue (out_neighbours b v) (linked_neighbour s v w (subst (λ (x : ℕ). Linked b x w) d l)))
          next u w (inr i) l = still w (g.onward u w i l)

    visit-holds : Holds b a list rs (visit b a rs v queue counted)
    unfolding visit
    visit-holds = go (ltb (M rs) (position b a v)) (member v counted) refl refl
      where
        below : (t : Bool) → stands_below b a rs v ≡ t → ltb (M rs) (position b a v) ≡ false → member v counted ≡ false
            → Holds b a list rs (cond t (stopped (v ∷ counted)) (going (queue ++ out_neighbours b v) (v ∷ counted)))
        below true e low new = stop low new e
        below false e low new = go_on low new e

        go : (above old : Bool) → ltb (M rs) (position b a v) ≡ above → member v counted ≡ old
            → Holds b a list rs
            (cond (above || old) (going queue counted)
            (cond (stands_below b a rs v) (stopped (v ∷ counted)) (going (queue ++ out_neighbours b v) (v ∷ counted))))
        go true old p q = skip true old p q refl
        go false true p q = skip false true p q refl
        go false false p q = below (stands_below b a rs v) refl p q

  step-holds : (w : Walk) → Holds b a list rs w → Holds b a list rs (step b a rs w)
  unfolding step
  step-holds (going [] counted) g = g
  step-holds (going (v ∷ queue) counted) g = visit-holds v queue counted g
  step-holds (stopped counted) h = h

  pub walk-holds : (t : ℕ) → Holds b a list rs (walk_after b a rs t)
  unfolding walk_after
  walk-holds zero =
      record {
        once = tt;
        waiting = start-beyond lined fits;
        passed = λ x i. absurd i;
        starts = λ x i. inl i;
        onward = λ u v i l. absurd i;
      }
  walk-holds (suc t) = step-holds (walk_after b a rs t) (walk-holds t)
