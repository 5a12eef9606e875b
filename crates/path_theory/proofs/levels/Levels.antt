-- The levels of a list by membership: who is linked to whom, who stands at the next distance, who was met by then, how levels end,
-- and the smallest steps that the path is made of. Rests on convexity_theory's Memberships and Extremes.
use Prim.Native.Nat.{ℕ, zero, suc, ◌≤◌, ◌<◌}
use native.Mathlib.Decide.{dec_le}
use native.Mathlib.Omega.{arith}
use mathlib.Core.Path.{◌≡◌, refl, sym, ap, ap₂, ◌∙◌, subst}
use mathlib.Core.Logic.{◌⊎◌, inl, inr}
use mathlib.Core.Bool.{Bool, true, false, true≢false, not, ◌&&◌}
use mathlib.Core.List.{List, [], ◌∷◌, ◌++◌}
use lib.Dec.{eqb}
use borrow.Author.Tests.{eq-eqb, eqb-true, not-true}
use Rattle.lists.specs.Lists.{In, upto, any, keep, member, least}
use Rattle.paper.specs.Map.{N, L, link_from, link_to}
use Rattle.paper.specs.Plain.{Linked}
use Rattle.paper.specs.Path.{leads, fed_by, farther, rounds, level_at, ends_at, step_before}
use Rattle.accepted_theory.proofs.recorded.Among.{same_truth, and_both, any_none, upto_at}
use Rattle.convexity_theory.proofs.Memberships.{
  in_mem,
  mem_in,
  in_member,
  member_in,
  in_left,
  in_right,
  in_either,
  in_keep,
  kept,
  Some,
  any_some,
  some-any,
  upto-below,
}
use Rattle.convexity_theory.proofs.Extremes.{least-most, least_in}

-- ---- who is linked to whom

module _ (b : List ℕ) where
  pub leads-linked : (u v : ℕ) → leads b u v ≡ true → Linked b u v
  unfolding leads
  leads-linked u v e = go (any_some from-to (upto (L b)) e)
    where
      from-to : ℕ → Bool
      from-to k = eqb (link_from b k) u && eqb (link_to b k) v

      go : Some from-to true (upto (L b)) → Linked b u v
      go s =
          let both = and_both (eqb (link_from b s.which) u) (eqb (link_to b s.which) v) s.says in
          record {
            link = s.which;
            known = upto-below s.there;
            source = eqb-true (link_from b s.which) u both.0;
            target = eqb-true (link_to b s.which) v both.1;
          }

  pub linked-leads : {u v : ℕ} → Linked b u v → leads b u v ≡ true
  unfolding leads
  linked-leads {u} {v} r =
      some-any (λ k. eqb (link_from b k) u && eqb (link_to b k) v) (upto_at r.link (L b) r.known)
      (ap₂ ◌&&◌ (eq-eqb (link_from b r.link) u r.source) (eq-eqb (link_to b r.link) v r.target))

-- one of some steps is linked to v
pub record Fed (b some : List ℕ) (v : ℕ) : Type 0 where
  pub from : ℕ
  pub there : In from some
  pub linked : Linked b from v

pub fed_by_lem : (b some : List ℕ) (v : ℕ) → fed_by b some v ≡ true → Fed b some v
unfolding fed_by
fed_by_lem b some v e = go (any_some (λ u. leads b u v) some e)
  where
    go : Some (λ u. leads b u v) true some → Fed b some v
    go s = record { from = s.which; there = mem_in some s.there; linked = leads-linked b s.which v s.says }

pub feeds : (b some : List ℕ) (v : ℕ) → Fed b some v → fed_by b some v ≡ true
unfolding fed_by
feeds b some v f = some-any (λ u. leads b u v) (in_mem some f.there) (linked-leads b f.linked)

-- ---- who stands at the next distance

-- linked from the last distance and not met before, as a test
abbrev joins : List ℕ → List ℕ → ℕ → ℕ → Bool
joins b list d v = fed_by b (level_at b list d) v && not (member v (rounds b list d).met)

-- .. and as it is, known besides
pub record Next (b list : List ℕ) (d v : ℕ) : Type 0 where
  pub fed : Fed b (level_at b list d) v
  pub new : In v (rounds b list d).met → ⊥
  pub known : v < N b

module _ (b list : List ℕ) (d v : ℕ) where
  in_upto : v < N b → In v (upto (N b))
  in_upto h = mem_in (upto (N b)) (upto_at v (N b) h)

  pub level-next : In v (level_at b list (suc d)) → Next b list d v
  unfolding level_at rounds farther
  level-next i =
      let k = kept (joins b list d) v (upto (N b)) i in
      let both = and_both (fed_by b (level_at b list d) v) (not (member v (rounds b list d).met)) k.0 in
      record {
        fed = fed_by_lem b (level_at b list d) v both.0;
        new = λ m. true≢false (sym (in_member v (rounds b list d).met m) ∙ not-true (member v (rounds b list d).met) both.1);
        known = upto-below (in_mem (upto (N b)) k.1);
      }

  pub next_level : Next b list d v → In v (level_at b list (suc d))
  unfolding level_at rounds farther
  next_level n =
      in_keep (joins b list d) v (upto (N b))
      (ap₂ ◌&&◌ (feeds b (level_at b list d) v n.fed) (ap not (not_met (member v (rounds b list d).met) refl)))
      (in_upto n.known)
    where
      not_met : (t : Bool) → member v (rounds b list d).met ≡ t → t ≡ false
      not_met true e = absurd (n.new (member_in v (rounds b list d).met e))
      not_met false e = refl

  -- the next level's own test
  pub level-member : v < N b → member v (level_at b list (suc d)) ≡ (fed_by b (level_at b list d) v && not (member v (rounds b list d).met))
  unfolding level_at rounds farther
  level-member h =
      let level = keep (joins b list d) (upto (N b)) in
      same_truth (member v level) (joins b list d v) (λ e. (kept (joins b list d) v (upto (N b)) (member_in v level e)).0)
      (λ e. in_member v level (in_keep (joins b list d) v (upto (N b)) e (in_upto h)))

module _ (b list : List ℕ) where
  -- at the start the list itself
  pub level_zero : level_at b list zero ≡ list
  unfolding level_at rounds
  level_zero = refl

  pub met_zero : (rounds b list zero).met ≡ list
  unfolding rounds
  met_zero = refl

  pub met_next : (d : ℕ) → (rounds b list (suc d)).met ≡ (rounds b list d).met ++ level_at b list (suc d)
  unfolding level_at rounds
  met_next d = refl

-- ---- what was met

-- v stands at a distance no farther than d
pub record Near (b list : List ℕ) (d v : ℕ) : Type 0 where
  pub distance : ℕ
  pub close : distance ≤ d
  pub there : In v (level_at b list distance)

module _ (b list : List ℕ) where
  pub level-met : (d v : ℕ) → In v (level_at b list d) → In v (rounds b list d).met
  level-met zero v i = subst (In v) (level_zero b list ∙ sym (met_zero b list)) i
  level-met (suc d) v i = subst (In v) (sym (met_next b list d)) (in_right v (rounds b list d).met (level_at b list (suc d)) i)

  pub met_later : (d e v : ℕ) → d ≤ e → In v (rounds b list d).met → In v (rounds b list e).met
  met_later d zero v h i = subst (λ (n : ℕ). In v (rounds b list n).met) (omega arith) i
  met_later d (suc e) v h i = go (dec_le d e) (met_later d e v)
    where
      go : Dec (d ≤ e) → (d ≤ e → In v (rounds b list d).met → In v (rounds b list e).met) → In v (rounds b list (suc e)).met
      go (yes l) later = subst (In v) (sym (met_next b list e)) (in_left v (rounds b list e).met (level_at b list (suc e)) (later l i))
      go (no l) later = subst (λ (n : ℕ). In v (rounds b list n).met) (omega arith) i

  pub list-met : (d v : ℕ) → In v list → In v (rounds b list d).met
  list-met d v i = met_later zero d v (omega arith) (subst (In v) (sym (met_zero b list)) i)

  pub met-near : (d v : ℕ) → In v (rounds b list d).met → Near b list d v
  met-near zero v i =
      record { distance = zero; close = omega arith; there = subst (In v) (met_zero b list ∙ sym (level_zero b list)) i }
  met-near (suc d) v i =
      go (in_either v (rounds b list d).met (level_at b list (suc d)) (subst (In v) (met_next b list d) i)) (met-near d v)
    where
      go : In v (rounds b list d).met ⊎ In v (level_at b list (suc d)) → (In v (rounds b list d).met → Near b list d v) → Near b list (suc d) v
      go (inl m) nearer = let n = nearer m in record { distance = n.distance; close = omega arith; there = n.there }
      go (inr here) nearer = record { distance = suc d; close = omega arith; there = here }

  -- from 1 on levels are outside the list
  pub level-outside : (d v : ℕ) → In v (level_at b list (suc d)) → In v list → ⊥
  level-outside d v i listed = (level-next b list d v i).new (list-met d v listed)

-- ---- levels end

pub nobody : (xs : List ℕ) → ((v : ℕ) → In v xs → ⊥) → xs ≡ []
nobody [] none = refl
nobody (x ∷ xs) none = absurd (none x (inl refl))

module _ (b list : List ℕ) where
  -- behind a step at one distance stands one at each distance before
  level_before : (d e v : ℕ) → e ≤ d → In v (level_at b list d) → (u : ℕ) × In u (level_at b list e)
  level_before zero e v h i = (v, subst (λ (n : ℕ). In v (level_at b list n)) (omega arith) i)
  level_before (suc d) e v h i = go (dec_le e d) (level_before d e)
    where
      go : Dec (e ≤ d) → ((v : ℕ) → e ≤ d → In v (level_at b list d) → (u : ℕ) × In u (level_at b list e)) → (u : ℕ) × In u (level_at b list e)
      go (yes l) before = let f = (level-next b list d v i).fed in before f.from l f.there
      go (no l) before = (v, subst (λ (n : ℕ). In v (level_at b list n)) (omega arith) i)

  pub levels_end : (d e : ℕ) → d ≤ e → level_at b list d ≡ [] → level_at b list e ≡ []
  levels_end d e h none =
      nobody (level_at b list e)
      (λ v i. let p = level_before e d v h i in subst (In p.0) none p.1)

  -- .. and so no listed step is linked from there
  pub fed_nowhere : (d : ℕ) → level_at b list d ≡ [] → any (fed_by b (level_at b list d)) list ≡ false
  unfolding fed_by
  fed_nowhere d none = ap (λ (some : List ℕ). any (fed_by b some) list) none ∙ any_none (fed_by b []) list (λ x m. refl)

-- ---- the step before, and the end

-- the smallest of the steps at distance d that are linked to v
pub record Smallest (b list : List ℕ) (d v u : ℕ) : Type 0 where
  pub there : In u (level_at b list d)
  pub linked : Linked b u v
  pub most : (w : ℕ) → In w (level_at b list d) → Linked b w v → u ≤ w

pub step-before : (b list : List ℕ) (d v : ℕ) → Fed b (level_at b list d) v → Smallest b list d v (step_before b list d v)
unfolding step_before
step-before b list d v f =
    let Least-kept = kept (λ u. leads b u v) (least feeders) (level_at b list d) (least_in f.from feeders (among f.from f.there f.linked)) in
    record {
      there = Least-kept.1;
      linked = leads-linked b (least feeders) v Least-kept.0;
      most = λ w i r. least-most w feeders (among w i r);
    }
  where
    feeders : List ℕ
    feeders = keep (λ u. leads b u v) (level_at b list d)

    among : (w : ℕ) → In w (level_at b list d) → Linked b w v → In w feeders
    among w i r = in_keep (λ u. leads b u v) w (level_at b list d) (linked-leads b r) i

-- the smallest of the listed steps to which one at distance d is linked
pub record SmallestEnd (b list : List ℕ) (d v : ℕ) : Type 0 where
  pub listed : In v list
  pub fed : Fed b (level_at b list d) v
  pub most : (w : ℕ) → In w list → Fed b (level_at b list d) w → v ≤ w

pub smallest-end : (b list : List ℕ) (d w : ℕ) → In w list → Fed b (level_at b list d) w → SmallestEnd b list d (least (ends_at b list d))
unfolding ends_at
smallest-end b list d w i f =
    let Least-kept = kept (fed_by b (level_at b list d)) (least (ends_at b list d)) list (least_in w (ends_at b list d) (among w i f)) in
    record {
      listed = Least-kept.1;
      fed = fed_by_lem b (level_at b list d) (least (ends_at b list d)) Least-kept.0;
      most = λ v j g. least-most v (ends_at b list d) (among v j g);
    }
  where
    among : (v : ℕ) → In v list → Fed b (level_at b list d) v → In v (ends_at b list d)
    among v j g = in_keep (fed_by b (level_at b list d)) v list (feeds b (level_at b list d) v g) j
