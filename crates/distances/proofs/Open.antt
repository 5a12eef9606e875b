-- Round by round: the distances before do not close, and what the search for an end says of the last one.
-- Rests on Reaching, Smallest and path_theory (Bounds, Alike).
use Prim.Native.Nat.{ℕ, suc, ◌+◌, ◌-◌, ◌≤◌, ◌<◌}
use native.Mathlib.Decide.{dec_lt}
use native.Mathlib.Numerals.{add-one}
use native.Mathlib.Omega.{arith}
use mathlib.Core.Path.{◌≡◌, refl, sym, ap, ◌∙◌, subst}
use mathlib.Core.Bool.{Bool, true, false, true≢false, ◌&&◌, and-true, and-false}
use mathlib.Core.List.{List}
use Rattle.std.specs.Prelude.{Some, None}
use Rattle.lists.specs.Lists.{In, any, keep, member, least}
use Rattle.lists.specs.Found.{absent, at}
use Rattle.lists.proofs.Sections.{part}
use Rattle.paper.specs.Map.{N}
use Rattle.paper.specs.Path.{fed_by, level_at, ends_at}
use Rattle.order_theory.specs.Sound.{Sound}
use Rattle.accepted_theory.proofs.recorded.Among.{same_truth}
use Rattle.convexity_theory.proofs.Memberships.{in_mem, mem_in, in_member, member_in, in_keep, kept, any_some, some-any}
use Rattle.path_theory.proofs.levels.Levels.{level_zero, nobody}
use Rattle.path_theory.proofs.levels.Alike.{Alike}
use Rattle.path_theory.proofs.levels.Bounds.{closes, never_closes}
use Rattle.tables.specs.Within.{Within}
use Rattle.tables.proofs.Within.{within_none, within_both}
use Rattle.distances.specs.declared.queue.Queue.{Queue}
use Rattle.distances.specs.Met.{met_size, tells, listed_of, Joins}
use Rattle.distances.specs.Reached.{Reached, targets_in}
use Rattle.distances.specs.Smallest.{smallest}
use Rattle.distances.specs.Closed.{Closed}
use Rattle.distances.proofs.Joining.{joins_rise, joins-keep}
use Rattle.distances.proofs.Reaching.{fed_are, fed_known, reaches}
use Rattle.distances.proofs.Smallest.{smallest-none, smallest-some, smallest-least}

-- ---- the ends at a distance

-- a listed step is linked from there exactly if the ends have a member
no_end : (f : ℕ → Bool) (list : List ℕ) → ((v : ℕ) → member v (keep f list) ≡ false) → any f list ≡ false
no_end f list none = go (any f list) refl
  where
    go : (t : Bool) → any f list ≡ t → any f list ≡ false
    go true e =
        let s = any_some f list e in
        absurd
        (true≢false
        (sym (in_member s.which (keep f list) (in_keep f s.which list s.says (mem_in list s.there))) ∙ none s.which))
    go false e = e

some_end : (f : ℕ → Bool) (list : List ℕ) (v : ℕ) → member v (keep f list) ≡ true → any f list ≡ true
some_end f list v e = let k = kept f v list (member_in v (keep f list) e) in some-any f (in_mem list k.1) k.0

member-keep : (f : ℕ → Bool) (xs : List ℕ) (v : ℕ) → member v (keep f xs) ≡ (member v xs && f v)
member-keep f xs v =
    same_truth (member v (keep f xs)) (member v xs && f v) (λ e. to (kept f v xs (member_in v (keep f xs) e)))
    (λ e. back (member v xs) (f v) refl refl e)
  where
    to : (f v ≡ true) × In v xs → (member v xs && f v) ≡ true
    to k = rw (in_member v xs k.1, k.0)

    back : (s t : Bool) → member v xs ≡ s → f v ≡ t → (s && t) ≡ true → member v (keep f xs) ≡ true
    back true t m p e = in_member v (keep f xs) (in_keep f v xs (p ∙ e) (member_in v xs m))
    back false t m p e = absurd (true≢false (sym e))

module _ {b list a : List ℕ} {queue : Queue} {from to d : ℕ} (s : Sound b) (nodes : N b ≡ queue.nodes) (r : Reached b list a queue from to d) where
  -- the listed ones of what the last ones are linked to
  ends_are : Alike (listed_of a queue (targets_in b a queue.start from to)) (ends_at b list d)
  unfolding listed_of ends_at
  ends_are v =
      member-keep (λ w. tells a queue w 0) (targets_in b a queue.start from to) v ∙ go (member v (targets_in b a queue.start from to)) refl
      ∙ sym (member-keep (fed_by b (level_at b list d)) list v)
    where
      go : (t : Bool) → member v (targets_in b a queue.start from to) ≡ t → (member v (targets_in b a queue.start from to) && tells a queue v 0)
          ≡ (member v list && fed_by b (level_at b list d) v)
      go true e = rw (sym (fed_are s nodes r v) ∙ e, e) (r.told.level 0 v (omega arith) (fed_known s nodes r v e) ∙ ap (member v) (level_zero b list) ∙ sym (and-true (member v list)))
      go false e = rw (sym (fed_are s nodes r v) ∙ e, e) (sym (and-false (member v list)))

  -- none was found: this distance does not close
  stays_open : absent ≡ smallest (listed_of a queue (targets_in b a queue.start from to)) → any (fed_by b (level_at b list d)) list ≡ false
  unfolding ends_at
  stays_open e =
      no_end (fed_by b (level_at b list d)) list
      (λ v. sym (ends_are v) ∙ smallest-none (listed_of a queue (targets_in b a queue.start from to)) (sym e) v)

  module _ {w : ℕ} (e : at w ≡ smallest (listed_of a queue (targets_in b a queue.start from to))) where
    shuts : any (fed_by b (level_at b list d)) list ≡ true
    unfolding ends_at
    shuts =
        let there = smallest-some (listed_of a queue (targets_in b a queue.start from to)) (sym e) in
        some_end (fed_by b (level_at b list d)) list there.0 (sym (ends_are there.0) ∙ there.1)

    end-least : w ≡ least (ends_at b list d)
    end-least = smallest-least (listed_of a queue (targets_in b a queue.start from to)) (ends_at b list d) ends_are (sym e)

-- ---- round by round

-- after d rounds from the first `count` nodes none of the distances up to d has closed
pub record Open (b a : List ℕ) (queue : Queue) (count from to d : ℕ) (m : List ℕ) : Type 0 where
  pub reached : Reached b (part a queue.start count) m queue from to d
  pub before : (e : ℕ) → e < d → any (fed_by b (level_at b (part a queue.start count) (suc e))) (part a queue.start count) ≡ false
  pub list : part m queue.start count ≡ part a queue.start count
  pub more : count ≤ to
  pub kept : Within queue.start (met_size queue.nodes) a m

module _ {b a : List ℕ} {queue : Queue} {count : ℕ} where
  pub open_first : Reached b (part a queue.start count) a queue 0 count 0 → Open b a queue count 0 count 0 a
  open_first r =
      record { reached = r; before = λ e h. absurd (omega arith); list = refl; more = omega arith; kept = within_none }

  -- while there are last ones, another round stays within the nodes
  pub not_far : {from to d : ℕ} {m : List ℕ} → Open b a queue count from to d m → from < to → d + 1 ≤ queue.nodes
  not_far o some = omega (arith, o.reached.deep, o.reached.met.few)

  -- a round brought no step
  pub never : {from to d : ℕ} {m : List ℕ} → Open b a queue count from to d m → to ≤ from → Closed b a queue count None m
  never {from} {to} {d} {m} o h =
      record {
        closes = never_closes b (part a queue.start count) d (nobody (level_at b (part a queue.start count) d) none) o.before;
        list = o.list;
        kept = o.kept;
      }
    where
      nothing : (x y : ℕ) → y ≤ x → (u : ℕ) → member u (part m (queue.start + x) (y - x)) ≡ false
      nothing x y l u = let z : y - x ≡ 0 = omega arith in ap (λ (k : ℕ). member u (part m (queue.start + x) k)) z

      none : (u : ℕ) → In u (level_at b (part a queue.start count) d) → ⊥
      none u i = true≢false (sym (in_member u (level_at b (part a queue.start count) d) i) ∙ sym (o.reached.last u) ∙ nothing from to h u)

  module _ (s : Sound b) (nodes : N b ≡ queue.nodes) {from to d grown : ℕ} {m o : List ℕ} (now : Open b a queue count from to d m) (some : from < to)
      (j : Joins m queue to (targets_in b m queue.start from to) (d + 1) grown o) where
    pub next-reached : Reached b (part a queue.start count) o queue to grown (d + 1)
    next-reached = reaches s nodes now.reached j some

    next-list : part o queue.start count ≡ part a queue.start count
    next-list = joins-keep now.reached.met j count now.more ∙ now.list

    next-kept : Within queue.start (met_size queue.nodes) a o
    next-kept = within_both now.kept j.kept

    pub goes_on : absent ≡ smallest (listed_of o queue (targets_in b o queue.start to grown)) → Open b a queue count to grown (d + 1) o
    goes_on e =
        record {
          reached = next-reached;
          before = λ k h. go k h (dec_lt k d);
          list = next-list;
          more = omega (arith, now.more, joins_rise now.reached.met j);
          kept = next-kept;
        }
      where
        here : (k : ℕ) → suc k ≡ d + 1 → any (fed_by b (level_at b (part a queue.start count) (suc k))) (part a queue.start count) ≡ false
        here k z =
            ap (λ (x : ℕ). any (fed_by b (level_at b (part a queue.start count) x)) (part a queue.start count)) z ∙ stays_open s nodes next-reached e

        go : (k : ℕ) → k < d + 1 → Dec (k < d) → any (fed_by b (level_at b (part a queue.start count) (suc k))) (part a queue.start count) ≡ false
        go k h (yes l) = now.before k l
        go k h (no l) = here k (omega arith)

    pub closes_here : {w : ℕ} → at w ≡ smallest (listed_of o queue (targets_in b o queue.start to grown)) → Closed b a queue count (Some (d + 1, w)) o
    closes_here e =
        record {
          closes =
              record {
                below = d;
                distance = add-one d;
                first =
                    closes b (part a queue.start count) d
                    (subst (λ (x : ℕ). any (fed_by b (level_at b (part a queue.start count) x)) (part a queue.start count) ≡ true) (add-one d)
                    (shuts s nodes next-reached e)) now.before;
                smallest = end-least s nodes next-reached e;
                told = next-reached.told;
              };
          list = next-list;
          kept = next-kept;
        }
