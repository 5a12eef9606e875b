-- The path that is computed is the one that 02 asks for: no path back is shorter, and every other of its length loses at the first difference from the end.
-- Rests on Judged and Returns.
use Prim.Native.Nat.{ℕ, zero, suc, ◌+◌, ◌≤◌}
use native.Mathlib.Decide.{ℕ_discrete}
use native.Mathlib.Omega.{arith}
use mathlib.Core.Path.{◌≡◌, refl, sym, ap, ◌∙◌, subst}
use mathlib.Core.Logic.{inr}
use mathlib.Core.List.{List, [], ◌∷◌, ◌++◌}
use lib.ListN.{length, length-append}
use Rattle.lists.specs.Lists.{In, least}
use Rattle.lists.specs.Found.{at}
use Rattle.lists.proofs.First.{first_found}
use Rattle.paper.specs.Map.{N}
use Rattle.paper.specs.Path.{BackPath, ThePath, fed_by, level_at, ends_at, closing, step_before, path_to, path, no_path, path_from, back_path}
use Rattle.order_theory.specs.Sound.{Sound}
use Rattle.convexity_theory.proofs.Memberships.{in_mem, some-any}
use Rattle.path_theory.proofs.levels.Levels.{Fed, feeds, level_zero, met-near}
use Rattle.path_theory.proofs.levels.Bounds.{level-within, returns, closes_at, Written, written, path-length}
use Rattle.path_theory.proofs.levels.Ways.{way_outside, way_met}
use Rattle.path_theory.proofs.levels.Judged.{Judged, judged_on, judged_way}
use Rattle.path_theory.proofs.levels.Returns.{Return, path_return, back-path}

-- ---- none is shorter

-- the distance of a return's last step, from 1 on
record Leaves {b list steps : List ℕ} (r : Return b list steps) : Type 0 where
  before : ℕ
  there : In r.last (level_at b list (suc before))
  early : before + 3 ≤ length steps

-- where it closes, no later
record ClosesBy (b list : List ℕ) (d : ℕ) : Type 0 where
  place : ℕ
  closed : closing b list ≡ at place
  soon : place ≤ d

module _ {b : List ℕ} (s : Sound b) (list : List ℕ) where
  return_leaves : {steps : List ℕ} (r : Return b list steps) → Leaves r
  return_leaves {steps} r = go (length r.away) refl
    where
      long : length steps ≡ length r.away + 1
      long = ap length r.whole ∙ length-append r.away (r.end ∷ [])

      from : (m : ℕ) → length r.away ≡ suc m → (e : ℕ) → e ≤ m → In r.last (level_at b list e) → Leaves r
      from m q zero h i = absurd (way_outside r.way r.far (subst (In r.last) (level_zero b list) i))
      from m q (suc e) h i = record { before = e; there = i; early = omega (arith, long) }

      go : (n : ℕ) → length r.away ≡ n → Leaves r
      go zero q = absurd (omega (arith, r.far))
      go (suc m) q =
          let n = met-near b list m r.last (way_met s list r.way m (omega arith)) in
          from m q n.distance n.close n.there

  return_feeds : {steps : List ℕ} (r : Return b list steps) (d : ℕ) → In r.last (level_at b list d) → Fed b (level_at b list d) r.end
  return_feeds r d i = record { from = r.last; there = i; linked = r.linked }

  return_closes : {steps : List ℕ} (r : Return b list steps) (l : Leaves r) → ClosesBy b list l.before
  unfolding closing
  return_closes r l =
      let d = l.before in
      let fed = feeds b (level_at b list (suc d)) r.end (return_feeds r (suc d) l.there) in
      let f = first_found (returns b list) (N b) d (omega (arith, level-within b list (suc d) r.last l.there)) (some-any (fed_by b (level_at b list (suc d))) (in_mem list r.listed) fed) in
      record { place = f.place; closed = f.found; soon = f.early }

  -- where there is a path back, one is found
  pub path-found : {steps : List ℕ} → BackPath b list steps → back_path b list ≡ no_path → ⊥
  unfolding back_path path_from
  path-found p e =
      let r = path_return p in
      let c = return_closes r (return_leaves r) in
      let z : ◌≡◌ {A = ℕ} 0 1 = cc (ap (path_from b list) c.closed) in
      omega arith

  module _ {vs : List ℕ} (w : Written b list vs) where
    written-length : length vs ≡ w.distance + 3
    written-length =
        omega (arith, ap length w.whole, path-length b list (suc (suc w.distance)) (least (ends_at b list (suc w.distance))))

    no_later : {steps : List ℕ} (r : Return b list steps) (l : Leaves r) → w.distance ≤ l.before
    no_later r l =
        let c = return_closes r l in
        let same : w.distance ≡ c.place = cc (w.closed, c.closed) in
        omega (arith, c.soon)

    -- the smallest end decides, then the way to it
    judged : {others : List ℕ} → Return b list others → length others ≡ length vs → Judged vs others
    unfolding path_to
    judged {others} r q =
        subst (λ (xs : List ℕ). Judged xs others) (sym w.whole)
        (subst (Judged (path_to b list (suc d) end)) (sym r.whole) (go (ℕ_discrete end r.end)))
      where
        d : ℕ
        d = suc w.distance

        end : ℕ
        end = least (ends_at b list d)

        long : length r.away ≡ suc d
        long = omega (arith, ap length r.whole, length-append r.away (r.end ∷ []), written-length)

        there : In r.last (level_at b list d)
        there =
            let l = return_leaves r in
            subst (λ (e : ℕ). In r.last (level_at b list e)) (omega (arith, l.early, no_later r l, written-length)) l.there

        go : Dec (end ≡ r.end) → Judged (path_to b list (suc d) end) (r.away ++ (r.end ∷ []))
        go (yes e) =
            subst (λ (v : ℕ). Judged (path_to b list (suc d) v) (r.away ++ (r.end ∷ []))) (sym e)
            (judged_on b list d r.end r.way there r.linked (judged_way s list r.way d long there))
        go (no ne) =
            inr
            (record {
              lead = path_to b list d (step_before b list d end);
              step = end;
              other_lead = r.away;
              other_step = r.end;
              shared = [];
              whole = refl;
              other_whole = refl;
              smaller = omega (arith, (closes_at b list w.closed).end.most r.end r.listed (return_feeds r d there));
            })

  pub the_path : {vs : List ℕ} → back_path b list ≡ path vs → ThePath b list vs
  the_path {vs} e =
      record {
        path = back-path b list e;
        shortest = λ others p.
            let r = path_return p in
            let l = return_leaves r in
            omega (arith, no_later w r l, l.early, written-length w);
        first = λ others p q. judged w (path_return p) q;
      }
    where
      w : Written b list vs
      w = written b list e
