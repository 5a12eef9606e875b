-- Ways from the list, grown at their end: each has at least as many links as its end's distance, and to each step of a level leads one with just as many.
-- Rests on Levels.
use Prim.Native.Nat.{ℕ, zero, suc, ◌≤◌, ◌<◌}
use native.Mathlib.Decide.{dec_lt}
use native.Mathlib.Omega.{arith}
use mathlib.Core.Path.{◌≡◌, refl, subst}
use mathlib.Core.List.{List, [], ◌∷◌, ◌++◌}
use lib.ListN.{length, length-append}
use Rattle.lists.specs.Lists.{In}
use Rattle.paper.specs.Plain.{Linked}
use Rattle.paper.specs.Path.{rounds, level_at, step_before, path_to}
use Rattle.order_theory.specs.Sound.{Sound}
use Rattle.convexity_theory.proofs.Memberships.{dec_in}
use Rattle.convexity_theory.proofs.Paths.{target-known}
use Rattle.path_theory.proofs.levels.Levels.{level_zero, level-next, next_level, level-met, met_later, list-met, Near, met-near, level-outside, step-before}

-- from a listed step over steps outside the list, with its last step
pub data Way (b list : List ℕ) : List ℕ → ℕ → Type 0 where
  begin : {v : ℕ} → In v list → Way b list (v ∷ []) v
  further : {vs : List ℕ} {u v : ℕ} → Way b list vs u → Linked b u v → (In v list → ⊥) → Way b list (vs ++ (v ∷ [])) v

-- what stands before the last step
pub way_ends : {b list vs : List ℕ} {v : ℕ} → Way b list vs v → (front : List ℕ) × (vs ≡ front ++ (v ∷ []))
way_ends (begin i) = ([], refl)
way_ends (further {vs} w r out) = (vs, refl)

pub way_some : {b list vs : List ℕ} {v : ℕ} → Way b list vs v → 1 ≤ length vs
way_some (begin i) = omega arith
way_some (further {vs} {v = v} w r out) = omega (arith, length-append vs (v ∷ []))

pub way_outside : {b list vs : List ℕ} {v : ℕ} → Way b list vs v → 2 ≤ length vs → In v list → ⊥
way_outside (begin i) h = absurd (omega arith)
way_outside (further w r out) h = out

-- ---- at least the distance

module _ {b : List ℕ} (s : Sound b) (list : List ℕ) where
  -- a link leads to a step met one distance on
  link-met : {u v : ℕ} (d : ℕ) → Linked b u v → In u (level_at b list d) → In v (rounds b list (suc d)).met
  link-met {u} {v} d r i = go (dec_in v (rounds b list d).met)
    where
      go : Dec (In v (rounds b list d).met) → In v (rounds b list (suc d)).met
      go (yes m) = met_later b list d (suc d) v (omega arith) m
      go (no new) =
          level-met b list (suc d) v
          (next_level b list d v (record { fed = record { from = u; there = i; linked = r }; new = new; known = target-known s r }))

  pub way_met : {vs : List ℕ} {v : ℕ} → Way b list vs v → (d : ℕ) → length vs ≤ suc d → In v (rounds b list d).met
  way_met (begin {v = v} i) d h = list-met b list d v i
  way_met (further {vs} {u} {v} w r out) zero h = absurd (omega (arith, length-append vs (v ∷ []), way_some w))
  way_met (further {vs} {u} {v} w r out) (suc d) h =
      let n = met-near b list d u (way_met w d (omega (arith, length-append vs (v ∷ [])))) in
      met_later b list (suc n.distance) (suc d) v (omega (arith, n.close)) (link-met n.distance r n.there)

  -- before a step that was not met stands one at the last distance
  pub level_exact : {u v : ℕ} (d : ℕ) → Linked b u v → (In v (rounds b list d).met → ⊥) → In u (rounds b list d).met → In u (level_at b list d)
  level_exact {u} {v} d r new m = go (met-near b list d u m)
    where
      go : Near b list d u → In u (level_at b list d)
      go n = at_last (dec_lt n.distance d)
        where
          at_last : Dec (n.distance < d) → In u (level_at b list d)
          at_last (yes l) = absurd (new (met_later b list (suc n.distance) d v (omega arith) (link-met n.distance r n.there)))
          at_last (no l) = subst (λ (e : ℕ). In u (level_at b list e)) (omega (arith, n.close)) n.there

-- ---- and just as many

module _ (b list : List ℕ) where
  pub path_way : (d v : ℕ) → In v (level_at b list d) → Way b list (path_to b list d v) v
  unfolding path_to
  path_way zero v i = begin (subst (In v) (level_zero b list) i)
  path_way (suc d) v i =
      let before = step-before b list d v (level-next b list d v i).fed in
      further (path_way d (step_before b list d v) before.there) before.linked (level-outside b list d v i)
