-- How many they can be: the levels are apart and have known steps only, so they end within N, and the path has no more steps than fit there.
-- Rests on Levels and lists.Compare (a list without repeats fits below its bound).
use Prim.Native.Nat.{ℕ, zero, suc, ◌+◌, ◌≤◌, ◌<◌}
use native.Mathlib.Decide.{dec_lt}
use native.Mathlib.Omega.{arith}
use mathlib.Core.Path.{◌≡◌, refl, sym, ap, subst}
use mathlib.Core.Logic.{◌⊎◌, inl, inr}
use mathlib.Core.Bool.{Bool, true, false}
use mathlib.Core.List.{List, [], ◌∷◌, ◌++◌}
use lib.ListN.{length, length-append}
use lib.Dec.{eqb}
use Rattle.lists.specs.Lists.{In, Distinct, upto, any, keep, times, least}
use Rattle.lists.specs.Bounds.{Below}
use Rattle.lists.specs.Found.{Found, absent, at}
use Rattle.lists.proofs.Count.{one-small, times-keep-upto, times-keep_past}
use Rattle.lists.proofs.Compare.{fits}
use Rattle.lists.proofs.First.{first_at, first-is, first-none}
use Rattle.lists.proofs.Upto.{count-append}
use Rattle.paper.specs.Map.{N}
use Rattle.paper.specs.Path.{fed_by, farther, rounds, level_at, ends_at, closing, step_before, path_to, Path, path, no_path, path_from, back_path, steps_of}
use Rattle.convexity_theory.proofs.Memberships.{mem_in, in_either, times-out, times-distinct, dec_in, Some, any_some}
use Rattle.path_theory.proofs.levels.Levels.{
  Fed,
  fed_by_lem,
  level_zero,
  level-next,
  level-met,
  met_later,
  list-met,
  levels_end,
  fed_nowhere,
  step-before,
  SmallestEnd,
  smallest-end,
}

-- ---- the levels within N

-- a level has known steps, each once
kept-once : (f : ℕ → Bool) (n v : ℕ) → times v (keep f (upto n)) ≤ 1
kept-once f n v = go (dec_lt v n)
  where
    go : Dec (v < n) → times v (keep f (upto n)) ≤ 1
    go (yes l) = omega (arith, times-keep-upto f v n l, one-small (f v))
    go (no l) = omega (arith, times-keep_past f v n (omega arith))

level-few : (b list : List ℕ) (d v : ℕ) → times v (level_at b list (suc d)) ≤ 1
unfolding level_at rounds farther
level-few b list d v = kept-once _ (N b) v

level-known : (b list : List ℕ) (d : ℕ) → Below (N b) (level_at b list (suc d))
unfolding level_at rounds farther
level-known b list d k h = times-keep_past _ k (N b) h

-- some steps, and the levels up to d
abbrev gathered : List ℕ → List ℕ → List ℕ → ℕ → List ℕ
gathered b list some zero = some
gathered b list some (suc d) = gathered b list some d ++ level_at b list (suc d)

module _ (b list some : List ℕ) (once : Distinct some) (listed : (v : ℕ) → In v some → In v list) (known : (v : ℕ) → In v some → v < N b) where
  gathered-met : (d v : ℕ) → In v (gathered b list some d) → In v (rounds b list d).met
  gathered-met zero v i = list-met b list zero v (listed v i)
  gathered-met (suc d) v i = go (in_either v (gathered b list some d) (level_at b list (suc d)) i) (gathered-met d v)
    where
      go : In v (gathered b list some d) ⊎ In v (level_at b list (suc d)) → (In v (gathered b list some d) → In v (rounds b list d).met) → In v (rounds b list (suc d)).met
      go (inl j) before = met_later b list d (suc d) v (omega arith) (before j)
      go (inr j) before = level-met b list (suc d) v j

  gathered-once : (d v : ℕ) → times v (gathered b list some d) ≤ 1
  gathered-once zero v = times-distinct some once v
  gathered-once (suc d) v = go (dec_in v (level_at b list (suc d))) (gathered-once d v)
    where
      joined : times v (gathered b list some (suc d)) ≡ times v (gathered b list some d) + times v (level_at b list (suc d))
      joined = count-append (eqb v) (gathered b list some d) (level_at b list (suc d))

      go : Dec (In v (level_at b list (suc d))) → times v (gathered b list some d) ≤ 1 → times v (gathered b list some (suc d)) ≤ 1
      go (yes i) few =
          omega (arith, joined, level-few b list d v, times-out v (gathered b list some d) (λ j. (level-next b list d v i).new (gathered-met d v j)))
      go (no out) few = omega (arith, joined, times-out v (level_at b list (suc d)) out)

  gathered-known : (d : ℕ) → Below (N b) (gathered b list some d)
  gathered-known zero k h = times-out k some (λ i. omega (arith, known k i))
  gathered-known (suc d) k h =
      omega (arith, count-append (eqb k) (gathered b list some d) (level_at b list (suc d)), gathered-known d k h, level-known b list d k h)

  gathered-many : (d v : ℕ) → In v (level_at b list d) → length some + d ≤ length (gathered b list some d)
  gathered-many zero v i = omega arith
  gathered-many (suc d) v i =
      let f = (level-next b list d v i).fed in
      omega (arith, length-append (gathered b list some d) (level_at b list (suc d)), gathered-many d f.from f.there, filled (level_at b list (suc d)) i)
    where
      filled : (xs : List ℕ) → In v xs → 1 ≤ length xs
      filled [] j = absurd j
      filled (x ∷ xs) j = omega arith

  -- known listed steps and the levels up to one that has a step fit into N
  pub levels_fit : (d v : ℕ) → In v (level_at b list d) → length some + d ≤ N b
  levels_fit d v i = omega (arith, gathered-many d v i, fits (N b) (gathered b list some d) (gathered-known d) (gathered-once d))

pub level-within : (b list : List ℕ) (d v : ℕ) → In v (level_at b list d) → d ≤ N b
level-within b list d v i = omega (arith, levels_fit b list [] tt (λ u j. absurd j) (λ u j. absurd j) d v i)

-- ---- where the way back closes

-- a step at distance d + 1 is linked to a listed one
abbrev pub returns : List ℕ → List ℕ → ℕ → Bool
returns b list d = any (fed_by b (level_at b list (suc d))) list

module _ (b list : List ℕ) where
  -- .. and which
  returning : (d : ℕ) → returns b list d ≡ true → (v : ℕ) × In v list × Fed b (level_at b list (suc d)) v
  returning d e = go (any_some (fed_by b (level_at b list (suc d))) list e)
    where
      go : Some (fed_by b (level_at b list (suc d))) true list → (v : ℕ) × In v list × Fed b (level_at b list (suc d)) v
      go s = (s.which, mem_in list s.there, fed_by_lem b (level_at b list (suc d)) s.which s.says)

  -- the first distance at which one is linked to the list is within N
  pub closes : (d : ℕ) → returns b list d ≡ true → ((e : ℕ) → e < d → returns b list e ≡ false) → closing b list ≡ at d
  unfolding closing
  closes d e before =
      let f = (returning d e).2 in
      first-is (returns b list) (N b) d
      (record { known = omega (arith, level-within b list (suc d) f.from f.there); passes = e; fail = before })

  -- and none is, where the levels end before
  pub never_closes : (d : ℕ) → level_at b list d ≡ [] → ((e : ℕ) → e < d → returns b list e ≡ false) → closing b list ≡ absent
  unfolding closing
  never_closes d none before = first-none (returns b list) (N b) (λ e h. go e (dec_lt e d))
    where
      go : (e : ℕ) → Dec (e < d) → returns b list e ≡ false
      go e (yes l) = before e l
      go e (no l) = fed_nowhere b list (suc e) (levels_end b list d (suc e) (omega arith) none)

  -- where it closes there is a smallest end
  pub record ClosesAt (d : ℕ) : Type 0 where
    pub below : d < N b
    pub end : SmallestEnd b list (suc d) (least (ends_at b list (suc d)))

  pub closes_at : {d : ℕ} → closing b list ≡ at d → ClosesAt d
  unfolding closing
  closes_at {d} e =
      let r = first_at (returns b list) (N b) d e in
      let w = returning d r.passes in
      record { below = r.known; end = smallest-end b list (suc d) w.0 w.1 w.2 }

  -- ---- the path

  -- what a path that is computed is
  pub record Written (vs : List ℕ) : Type 0 where
    pub distance : ℕ
    pub closed : closing b list ≡ at distance
    pub whole : vs ≡ path_to b list (suc (suc distance)) (least (ends_at b list (suc distance)))

  pub written : {vs : List ℕ} → back_path b list ≡ path vs → Written vs
  unfolding back_path path_from
  written {vs} e = go (closing b list) refl e
    where
      go : (f : Found) → closing b list ≡ f → path_from b list f ≡ path vs → Written vs
      go absent q e = absurd (let z : ◌≡◌ {A = ℕ} 0 1 = cc in omega arith)
      go (at d) q e = record { distance = d; closed = q; whole = cc }

  pub path-length : (d v : ℕ) → length (path_to b list d v) ≡ suc d
  unfolding path_to
  path-length zero v = refl
  path-length (suc d) v =
      omega (arith, length-append (path_to b list d (step_before b list d v)) (v ∷ []), path-length d (step_before b list d v))

  -- listed steps, known and each once, and the path: it may have two of them itself, its start and its end
  pub back-path-fits : (some : List ℕ) → Distinct some → ((v : ℕ) → In v some → In v list) → ((v : ℕ) → In v some → v < N b) → {vs : List ℕ}
      → back_path b list ≡ path vs → length some + length vs ≤ N b + 2
  back-path-fits some once listed known e =
      let w = written e in
      let f = (closes_at w.closed).end.fed in
      omega (
        arith,
        ap length w.whole,
        path-length (suc (suc w.distance)) (least (ends_at b list (suc w.distance))),
        levels_fit b list some once listed known (suc w.distance) f.from f.there,
      )

  pub back-path-length : {vs : List ℕ} → back_path b list ≡ path vs → length vs ≤ N b + 2
  back-path-length e = omega (arith, back-path-fits [] tt (λ v i. absurd i) (λ v i. absurd i) e)

  -- of a path or of none
  pub few-steps : length (steps_of (back_path b list)) ≤ N b + 2
  unfolding steps_of
  few-steps = go (back_path b list) refl
    where
      go : (found : Path) → back_path b list ≡ found → length (steps_of found) ≤ N b + 2
      go (path vs) e = back-path-length e
      go no_path e = omega arith

-- ---- where the listed steps are known

alone : {x : ℕ} (P : ℕ → Type 0) → P x → (v : ℕ) → In v (x ∷ []) → P v
alone P p v (inl e) = subst P (sym e) p
alone P p v (inr none) = absurd none

module _ (b list : List ℕ) (known : (v : ℕ) → In v list → v < N b) where
  pub level-steps-known : (d v : ℕ) → In v (level_at b list d) → v < N b
  level-steps-known zero v i = known v (subst (In v) (level_zero b list) i)
  level-steps-known (suc d) v i = (level-next b list d v i).known

  snoc_known : (vs : List ℕ) (v : ℕ) → ((u : ℕ) → In u vs → u < N b) → v < N b → (u : ℕ) → In u (vs ++ (v ∷ [])) → u < N b
  snoc_known vs v before last u i = go (in_either u vs (v ∷ []) i)
    where
      go : In u vs ⊎ In u (v ∷ []) → u < N b
      go (inl j) = before u j
      go (inr j) = alone (λ w. w < N b) last u j

  pub path-steps-known : (d v : ℕ) → In v (level_at b list d) → (u : ℕ) → In u (path_to b list d v) → u < N b
  unfolding path_to
  path-steps-known zero v i = snoc_known [] v (λ u j. absurd j) (level-steps-known zero v i)
  path-steps-known (suc d) v i =
      snoc_known (path_to b list d (step_before b list d v)) v
      (path-steps-known d (step_before b list d v) (step-before b list d v (level-next b list d v i).fed).there)
      (level-steps-known (suc d) v i)

  pub back-path-known : {vs : List ℕ} → back_path b list ≡ path vs → (u : ℕ) → In u vs → u < N b
  unfolding path_to
  back-path-known e u i =
      let w = written b list e in
      let end = (closes_at b list w.closed).end in
      let d = suc w.distance in
      let v = least (ends_at b list d) in
      snoc_known (path_to b list d (step_before b list d v)) v (path-steps-known d (step_before b list d v) (step-before b list d v end.fed).there)
      (known v end.listed) u
      (subst (In u) w.whole i)

  -- its end is listed
  pub back-path-room : {vs : List ℕ} → back_path b list ≡ path vs → length vs ≤ N b + 1
  back-path-room e =
      let d = suc (written b list e).distance in
      let end = (closes_at b list (written b list e).closed).end in
      let listed = alone {x = least (ends_at b list d)} (λ v. In v list) end.listed in
      omega (arith, back-path-fits b list (least (ends_at b list d) ∷ []) (λ i. i, tt) listed (λ v i. known v (listed v i)) e)
