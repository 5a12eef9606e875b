-- A row of numbers that rise by g: the ones that pass stand together exactly if, counted on from the first of them, they end at the last.
-- Rests on Laws; knows nothing of graphs.
use Prim.Native.Nat.{ℕ, zero, suc, ◌+◌, ◌-◌, ◌≤◌, ◌<◌}
use native.Mathlib.Decide.{ℕ_discrete}
use native.Mathlib.Omega.{arith}
use mathlib.Core.Path.{◌≡◌, refl, sym, ap, ◌∙◌}
use mathlib.Core.Bool.{Bool, true, false, not, ◌&&◌, ◌||◌, cond}
use mathlib.Core.List.{List, [], ◌∷◌, map}
use lib.ListN.{length, get_or, length-map}
use lib.Dec.{eqb, leb}
use borrow.Author.Tests.{eq-eqb, ne_eqb, le-leb, lt-leb}
use Rattle.lists.specs.Lists.{one, all, count, keep, times, least, greatest, In, Rising}
use Rattle.lists.proofs.Count.{length-keep}
use Rattle.lists.proofs.Members.{times-kept}
use Rattle.accepted_theory.proofs.collecting.Laws.{all_passes, count_most, times-map, least-there, greatest-there, rising_places, rising-rest, rising-above}

-- a test that asks for a false one does not pass
always : (s t : Bool) → (s || not (t && false)) ≡ true
always true t = refl
always false true = refl
always false false = refl

module _ (g : ℕ → ℕ) (f : ℕ → Bool) where
  -- those that pass, by g
  abbrev pub kept : List ℕ → List ℕ
  kept vs = map g (keep f vs)

  -- passes, or is not between
  abbrev pub outside : ℕ → ℕ → ℕ → Bool
  outside low high v = f v || not (leb low (g v) && leb (g v) high)

  kept-length : (vs : List ℕ) → length (kept vs) ≡ count f vs
  kept-length vs = length-map (keep f vs) g ∙ length-keep f vs

  -- what is kept behind the first is above it
  first-low : (v : ℕ) (vs : List ℕ) → Rising (map g (v ∷ vs)) → 1 ≤ count f vs → g v < least (kept vs)
  first-low v vs r h = go (kept vs) refl
    where
      go : (ps : List ℕ) → kept vs ≡ ps → g v < least (kept vs)
      go [] e = absurd (omega (arith, kept-length vs, ap length e))
      go (p ∷ ps) e =
          let there : 1 ≤ times (least (kept vs)) (kept vs) = rw e (least-there p ps) in
          rising-above (g v) (map g vs) r (least (kept vs)) (omega (arith, times-kept g f (least (kept vs)) vs))

  last-high : (v : ℕ) (vs : List ℕ) → Rising (map g (v ∷ vs)) → 1 ≤ count f vs → g v < greatest (kept vs)
  last-high v vs r h = go (kept vs) refl
    where
      go : (ps : List ℕ) → kept vs ≡ ps → g v < greatest (kept vs)
      go [] e = absurd (omega (arith, kept-length vs, ap length e))
      go (p ∷ ps) e =
          let there : 1 ≤ times (greatest (kept vs)) (kept vs) = rw e (greatest-there p ps) in
          rising-above (g v) (map g vs) r (greatest (kept vs)) (omega (arith, times-kept g f (greatest (kept vs)) vs))

  none_kept : (vs : List ℕ) → count f vs ≡ 0 → kept vs ≡ []
  none_kept vs e = go (kept vs) (kept-length vs)
    where
      go : (ps : List ℕ) → length ps ≡ count f vs → ps ≡ []
      go [] q = refl
      go (p ∷ ps) q = absurd (omega arith)

  first-least : (v : ℕ) (vs : List ℕ) → Rising (map g (v ∷ vs)) → least (g v ∷ kept vs) ≡ g v
  first-least v vs r = go (ℕ_discrete (count f vs) 0)
    where
      least_first : (p : ℕ) (ps : List ℕ) → (ps ≡ [] → ⊥) → p < least ps → least (p ∷ ps) ≡ p
      least_first p [] some l = refl
      least_first p (q ∷ qs) some l = omega arith

      go : Dec (count f vs ≡ 0) → least (g v ∷ kept vs) ≡ g v
      go (yes none) = ap (λ (ps : List ℕ). least (g v ∷ ps)) (none_kept vs none)
      go (no some) = least_first (g v) (kept vs) (λ e. omega (arith, kept-length vs, ap length e)) (first-low v vs r (omega arith))

  -- as many places on as there are others that pass, nothing is above the last that passes
  reach : (vs : List ℕ) → Rising (map g vs) → (k : ℕ) → k < count f vs → get_or (map g vs) k 0 ≤ greatest (kept vs)
  reach [] r k h = absurd (omega arith)
  reach (v ∷ vs) r k h = go (f v) k h (reach vs (rising-rest (g v) (map g vs) r))
    where
      go : (t : Bool) (k : ℕ) → k < one t + count f vs → ((j : ℕ) → j < count f vs → get_or (map g vs) j 0 ≤ greatest (kept vs))
          → get_or (g v ∷ map g vs) k 0 ≤ greatest (map g (cond t (v ∷ keep f vs) (keep f vs)))
      go true zero h ih = omega arith
      go true (suc k) h ih = omega (arith, ih k (omega arith))
      go false k h ih =
          omega (
            arith,
            ih k (omega arith),
            rising_places (g v ∷ map g vs) r k (suc k) (omega arith) (omega (arith, count_most f vs, length-map vs g)),
          )

  -- from one that passes on
  run : (low high v : ℕ) (vs : List ℕ) → Rising (map g (v ∷ vs)) → low ≤ g v → high ≡ greatest (g v ∷ kept vs)
      → eqb (get_or (g v ∷ map g vs) (count f vs) 0) high ≡ all (outside low high) vs
  run low high v [] r l e = eq-eqb (g v) high (omega arith)
  run low high v (w ∷ ws) r l e = go (f w) refl e (run low high w ws r.1 (omega (arith, r.0)))
    where
      one_more : (n : ℕ) → 1 + n ≡ suc n
      one_more n = omega arith

      no_more : (n : ℕ) → 0 + n ≡ n
      no_more n = omega arith

      -- w does not pass
      gap : (n : ℕ) → count f ws ≡ n → high ≡ greatest (g v ∷ kept ws)
          → eqb (get_or (g v ∷ (g w ∷ map g ws)) n 0) high ≡ (not (leb low (g w) && leb (g w) high) && all (outside low high) ws)
      gap zero c q =
          let top : high ≡ g v = q ∙ ap (λ (ps : List ℕ). greatest (g v ∷ ps)) (none_kept ws c) ∙ (omega arith) in
          eq-eqb (g v) high (sym top)
          ∙ sym
          (rw (le-leb low (g w) (omega (arith, r.0)), lt-leb (g w) high (omega (arith, r.0)))
          (all_passes (outside low high) ws
          (λ u i. ap (λ (t : Bool). f u || not (leb low (g u) && t)) (lt-leb (g u) high (omega (arith, r.0, behind u i))) ∙ always (f u) (leb low (g u)))))
        where
          behind : (u : ℕ) → In u ws → g w < g u
          behind u i = rising-above (g w) (map g ws) r.1 (g u) (times-map g u ws i)
      gap (suc k) c q =
          let some = last-high w ws r.1 (omega arith) in
          let here = rising_places (g w ∷ map g ws) r.1 k (suc k) (omega arith) (omega (arith, count_most f ws, length-map ws g)) in
          let far = reach ws (rising-rest (g w) (map g ws) r.1) k (omega arith) in
          ne_eqb (get_or (g w ∷ map g ws) k 0) high (λ q'. omega arith)
          ∙ sym (rw (le-leb low (g w) (omega (arith, r.0)), le-leb (g w) high (omega arith)))

      go : (t : Bool) → f w ≡ t → high ≡ greatest (g v ∷ map g (cond t (w ∷ keep f ws) (keep f ws)))
          → (high ≡ greatest (g w ∷ kept ws) → eqb (get_or (g w ∷ map g ws) (count f ws) 0) high ≡ all (outside low high) ws)
          → eqb (get_or (g v ∷ (g w ∷ map g ws)) (one t + count f ws) 0) high
          ≡ ((t || not (leb low (g w) && leb (g w) high)) && all (outside low high) ws)
      go true p q ih =
          ap (λ (n : ℕ). eqb (get_or (g v ∷ (g w ∷ map g ws)) n 0) high) (one_more (count f ws)) ∙ ih (omega (arith, r.0))
      go false p q ih =
          ap (λ (n : ℕ). eqb (get_or (g v ∷ (g w ∷ map g ws)) n 0) high) (no_more (count f ws)) ∙ gap (count f ws) refl q

  -- where the first that passes stands, and what is found as many places on as pass
  pub record Filled (vs : List ℕ) (low high n : ℕ) : Type 0 where
    pub place : ℕ
    pub inside : place + n ≤ length vs
    pub lowest : get_or (map g vs) place 0 ≡ low
    pub answer : eqb (get_or (map g vs) (place + n - 1) 0) high ≡ all (outside low high) vs

  pub filled : (vs : List ℕ) (low high n : ℕ) → Rising (map g vs) → low ≡ least (kept vs) → high ≡ greatest (kept vs) → n ≡ count f vs → 1 ≤ n
      → Filled vs low high n
  filled [] low high n r el eh en h = absurd (omega arith)
  filled (v ∷ vs) low high n r el eh en h = go (f v) refl el eh en (filled vs low high n (rising-rest (g v) (map g vs) r))
    where
      back : (i : ℕ) → suc i + n - 1 ≡ suc (i + n - 1)
      back i = omega arith

      go : (t : Bool) → f v ≡ t → low ≡ least (map g (cond t (v ∷ keep f vs) (keep f vs))) → high ≡ greatest (map g (cond t (v ∷ keep f vs) (keep f vs)))
          → n ≡ one t + count f vs
          → (low ≡ least (kept vs) → high ≡ greatest (kept vs) → n ≡ count f vs → 1 ≤ n → Filled vs low high n)
          → Filled (v ∷ vs) low high n
      go true p el eh en ih =
          record {
            place = 0;
            inside = omega (arith, count_most f vs);
            lowest = sym (el ∙ first-least v vs r);
            answer =
                ap (λ (i : ℕ). eqb (get_or (g v ∷ map g vs) i 0) high) (others en)
                ∙ run low high v vs r (omega (arith, first-least v vs r)) eh
                ∙ sym (rw p refl);
          }
        where
          others : n ≡ 1 + count f vs → 0 + n - 1 ≡ count f vs
          others en = omega arith
      go false p el eh en ih =
          let later = ih el eh (omega arith) h in
          record {
            place = suc later.place;
            inside = omega (arith, later.inside);
            lowest = later.lowest;
            answer =
                ap (λ (i : ℕ). eqb (get_or (g v ∷ map g vs) i 0) high) (back later.place) ∙ later.answer
                ∙ sym (rw (p, lt-leb low (g v) (omega (arith, first-low v vs r (omega arith)))));
          }
