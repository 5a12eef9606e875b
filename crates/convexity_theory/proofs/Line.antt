-- A line whose positions rise: what stands right after, that nothing stands between, and the first node above a height.
-- Rests on the definitions.
use Prim.Native.Nat.{ℕ, ◌≤◌, ◌<◌}
use native.Mathlib.Omega.{arith}
use mathlib.Core.Path.{◌≡◌, refl, sym, ap, ◌∙◌}
use mathlib.Core.Logic.{◌⊎◌, inl, inr}
use mathlib.Core.Bool.{Bool, true, false, ◌&&◌, ◌||◌, true≢false}
use mathlib.Core.List.{List, [], ◌∷◌, map}
use lib.Dec.{eqb, ltb}
use borrow.Author.Tests.{eq-eqb, eqb-true, lt-ltb, le-ltb}
use Rattle.lists.specs.Lists.{keep, In, Rising}
use Rattle.lists.specs.Found.{at, front}
use Rattle.paper.specs.Accepted.{right_after}
use Rattle.convexity_theory.specs.Lined.{RightAfter}

-- ---- the test and what it says

pub right-after : (u v : ℕ) (xs : List ℕ) → right_after u v xs ≡ true → RightAfter u v xs
unfolding right_after
right-after u v [] e = absurd (true≢false (sym e))
right-after u v (x ∷ []) e = absurd (true≢false (sym e))
right-after u v (x ∷ (y ∷ ys)) e = go (eqb x u) (eqb y v) refl refl e (right-after u v (y ∷ ys))
  where
    go : (s t : Bool) → eqb x u ≡ s → eqb y v ≡ t → ((s && t) || right_after u v (y ∷ ys)) ≡ true
        → (right_after u v (y ∷ ys) ≡ true → RightAfter u v (y ∷ ys)) → ((u ≡ x) × (v ≡ y)) ⊎ RightAfter u v (y ∷ ys)
    go true true p q e more = inl (sym (eqb-true x u p), sym (eqb-true y v q))
    go true false p q e more = inr (more e)
    go false t p q e more = inr (more e)

pub after-right : (u v : ℕ) (xs : List ℕ) → RightAfter u v xs → right_after u v xs ≡ true
unfolding right_after
after-right u v [] r = absurd r
after-right u v (x ∷ []) r = absurd r
after-right u v (x ∷ (y ∷ ys)) (inl r) = rw (eq-eqb x u (sym r.0), eq-eqb y v (sym r.1))
after-right u v (x ∷ (y ∷ ys)) (inr r) = go (eqb x u && eqb y v) (after-right u v (y ∷ ys) r)
  where
    go : (t : Bool) → right_after u v (y ∷ ys) ≡ true → (t || right_after u v (y ∷ ys)) ≡ true
    go true e = refl
    go false e = e

-- ---- both stand on the line

module _ (u v : ℕ) where
  pub after_first : (xs : List ℕ) → RightAfter u v xs → In u xs
  after_first [] r = absurd r
  after_first (x ∷ []) r = absurd r
  after_first (x ∷ (y ∷ ys)) (inl r) = inl r.0
  after_first (x ∷ (y ∷ ys)) (inr r) = inr (after_first (y ∷ ys) r)

  pub after-second : (xs : List ℕ) → RightAfter u v xs → In v xs
  after-second [] r = absurd r
  after-second (x ∷ []) r = absurd r
  after-second (x ∷ (y ∷ ys)) (inl r) = inr (inl r.1)
  after-second (x ∷ (y ∷ ys)) (inr r) = inr (after-second (y ∷ ys) r)

  pub after_later : (x : ℕ) (xs : List ℕ) → RightAfter u v xs → RightAfter u v (x ∷ xs)
  after_later x [] r = absurd r
  after_later x (y ∷ ys) r = inr r

-- ---- heights

module _ (g : ℕ → ℕ) where
  pub rises-above : (x : ℕ) (xs : List ℕ) → Rising (map g (x ∷ xs)) → {v : ℕ} → In v xs → g x < g v
  rises-above x [] r i = absurd i
  rises-above x (y ∷ ys) r (inl e) = omega (arith, ap g e, r.0)
  rises-above x (y ∷ ys) r (inr i) = omega (arith, r.0, rises-above y ys r.1 i)

  pub rises-on : (x : ℕ) (xs : List ℕ) → Rising (map g (x ∷ xs)) → Rising (map g xs)
  rises-on x [] r = tt
  rises-on x (y ∷ ys) r = r.1

  -- one node at a height
  pub same-node : (xs : List ℕ) → Rising (map g xs) → {u v : ℕ} → In u xs → In v xs → g u ≡ g v → u ≡ v
  same-node [] r i j e = absurd i
  same-node (x ∷ xs) r (inl i) (inl j) e = i ∙ sym j
  same-node (x ∷ xs) r (inl i) (inr j) e = absurd (omega (arith, rises-above x xs r j, ap g i))
  same-node (x ∷ xs) r (inr i) (inl j) e = absurd (omega (arith, rises-above x xs r i, ap g j))
  same-node (x ∷ xs) r (inr i) (inr j) e = same-node xs (rises-on x xs r) i j e

  pub after-rises : (xs : List ℕ) → Rising (map g xs) → {u v : ℕ} → RightAfter u v xs → g u < g v
  after-rises [] r n = absurd n
  after-rises (x ∷ []) r n = absurd n
  after-rises (x ∷ (y ∷ ys)) r (inl n) = omega (arith, r.0, ap g n.0, ap g n.1)
  after-rises (x ∷ (y ∷ ys)) r (inr n) = after-rises (y ∷ ys) r.1 n

  -- the node right after one that stands no higher than h is the first above h, if it is above h
  pub first_above : (h : ℕ) (xs : List ℕ) → Rising (map g xs) → (u v : ℕ) → RightAfter u v xs → g u ≤ h → h < g v
      → front (keep (λ w. ltb h (g w)) xs) ≡ at v
  first_above h [] r u v n low high = absurd n
  first_above h (x ∷ []) r u v n low high = absurd n
  first_above h (x ∷ (y ∷ ys)) r u v (inl n) low high =
      rw (le-ltb h (g x) (omega (arith, ap g n.0)), lt-ltb h (g y) (omega (arith, ap g n.1))) (ap at (sym n.1))
  first_above h (x ∷ (y ∷ ys)) r u v (inr n) low high =
      rw (le-ltb h (g x) (omega (arith, rises-above x (y ∷ ys) r (after_first u v (y ∷ ys) n)))) (first_above h (y ∷ ys) r.1 u v n low high)
