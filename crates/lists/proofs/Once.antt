-- Sums over sums in either order, and the sum over a list that holds each number below n once.
-- Rests on Weight and Members.
use Prim.Native.Nat.{ℕ, ◌+◌, ◌<◌}
use native.Mathlib.Decide.{ℕ_discrete}
use native.Mathlib.Omega.{arith}
use mathlib.Core.Path.{◌≡◌, refl, sym, ap, ◌∙◌}
use mathlib.Core.Bool.{Bool, true, false, cond}
use mathlib.Core.List.{List, [], ◌∷◌, Memᴰ}
use lib.Dec.{eqb}
use borrow.Author.Tests.{eq-eqb, ne_eqb, eqb-true}
use Rattle.lists.specs.Lists.{upto, one, times}
use Rattle.lists.specs.Bounds.{Below}
use Rattle.lists.proofs.Count.{times-upto}
use Rattle.lists.specs.Weight.{total}
use Rattle.lists.proofs.Weight.{total-add, total-same}
use Rattle.lists.proofs.Members.{member_below}

module _ {A : Type 0} where
  -- sums that agree on the members
  pub total_members : (f g : A → ℕ) (xs : List A) → ((x : A) → Memᴰ x xs → f x ≡ g x) → total f xs ≡ total g xs
  total_members f g [] h = refl
  total_members f g (x ∷ xs) h =
      omega (arith, h x (Memᴰ.head refl), total_members f g xs (λ y m. h y (Memᴰ.tail m)))

  total_zero : (xs : List A) → total (λ (x : A). 0) xs ≡ 0
  total_zero [] = refl
  total_zero (x ∷ xs) = omega (arith, total_zero xs)

module _ {A B : Type 0} where
  pub total_swap : (f : A → B → ℕ) (xs : List A) (ys : List B) → total (λ x. total (f x) ys) xs ≡ total (λ y. total (λ x. f x y) xs) ys
  total_swap f [] ys = sym (total_zero ys)
  total_swap f (x ∷ xs) ys =
      omega
      (arith, total_swap f xs ys, total-add (λ y. f x y + total (λ z. f z y) xs) (f x) (λ y. total (λ z. f z y) xs) (λ y. refl) ys)

-- the sum of what stands at one number
pub sum-none : (h : ℕ → ℕ) (k : ℕ) (xs : List ℕ) → times k xs ≡ 0 → total (λ x. cond (eqb k x) (h x) 0) xs ≡ 0
sum-none h k [] e = refl
sum-none h k (x ∷ xs) e = go (eqb k x) refl (sum-none h k xs)
  where
    go : (t : Bool) → eqb k x ≡ t → (times k xs ≡ 0 → total (λ y. cond (eqb k y) (h y) 0) xs ≡ 0)
        → cond t (h x) 0 + total (λ y. cond (eqb k y) (h y) 0) xs ≡ 0
    go true q ih = absurd (omega (arith, ap one q))
    go false q ih = omega (arith, ih (omega (arith, ap one q)))

pub sum-once : (h : ℕ → ℕ) (k : ℕ) (xs : List ℕ) → times k xs ≡ 1 → total (λ x. cond (eqb k x) (h x) 0) xs ≡ h k
sum-once h k [] e = absurd (omega arith)
sum-once h k (x ∷ xs) e = go (eqb k x) refl (sum-once h k xs)
  where
    go : (t : Bool) → eqb k x ≡ t → (times k xs ≡ 1 → total (λ y. cond (eqb k y) (h y) 0) xs ≡ h k)
        → cond t (h x) 0 + total (λ y. cond (eqb k y) (h y) 0) xs ≡ h k
    go true q ih = omega (arith, sum-none h k xs (omega (arith, ap one q)), ap h (eqb-true k x q))
    go false q ih = omega (arith, ih (omega (arith, ap one q)))

same_place : (h : ℕ → ℕ) (x k : ℕ) → cond (eqb x k) (h k) 0 ≡ cond (eqb k x) (h x) 0
same_place h x k = go (ℕ_discrete x k)
  where
    go : Dec (x ≡ k) → cond (eqb x k) (h k) 0 ≡ cond (eqb k x) (h x) 0
    go (yes e) = rw (eq-eqb x k e, eq-eqb k x (sym e)) (ap h (sym e))
    go (no ne) = rw (ne_eqb x k ne, ne_eqb k x (λ e. ne (sym e)))

-- over each number below n once, in any order
pub total-once : (h : ℕ → ℕ) (n : ℕ) (xs : List ℕ) → Below n xs → ((k : ℕ) → k < n → times k xs ≡ 1) → total h xs ≡ total h (upto n)
total-once h n xs below once =
    total_members h (λ x. total (λ k. cond (eqb x k) (h k) 0) (upto n)) xs (λ x m. sym (sum-once h x (upto n) (times-upto x n (member_below below m))))
    ∙ total_swap (λ x k. cond (eqb x k) (h k) 0) xs (upto n)
    ∙ total-same (λ k. total (λ x. cond (eqb x k) (h k) 0) xs) h n
    (λ k l. total_members (λ x. cond (eqb x k) (h k) 0) (λ x. cond (eqb k x) (h x) 0) xs (λ x m. same_place h x k) ∙ sum-once h k xs (once k l))
