-- Sums and weights over lists and over the numbers below a bound, and the count of a list known by how often each number stands in it.
-- Rests on Count and Compare.
use Prim.Native.Nat.{ℕ, zero, suc, ◌+◌, ◌≤◌, ◌<◌}
use native.Mathlib.Omega.{arith}
use mathlib.Core.Path.{◌≡◌, refl, sym, ap, ◌∙◌}
use mathlib.Core.Bool.{Bool, true, false, cond, ◌&&◌}
use mathlib.Core.List.{List, [], ◌∷◌, ◌++◌, map, flatten}
use lib.ListN.{length}
use lib.Dec.{eqb}
use Rattle.lists.specs.Lists.{from, upto, one, keep, count, times}
use Rattle.lists.specs.Bounds.{Below}
use Rattle.lists.proofs.Upto.{count-append, length_from}
use Rattle.lists.proofs.Count.{cond_add, cond_mono, cond_none, length-keep, times-keep-upto, times-keep_past}
use Rattle.lists.proofs.Compare.{fewer, same_length}
use Rattle.lists.specs.Weight.{total, weight}

-- ---- sums

module _ {A : Type 0} where
  pub total-append : (f : A → ℕ) (xs ys : List A) → total f (xs ++ ys) ≡ total f xs + total f ys
  total-append f [] ys = omega arith
  total-append f (x ∷ xs) ys = omega (arith, total-append f xs ys)

  pub total-add : (f g h : A → ℕ) → ((x : A) → f x ≡ g x + h x) → (xs : List A) → total f xs ≡ total g xs + total h xs
  total-add f g h e [] = refl
  total-add f g h e (x ∷ xs) = omega (arith, total-add f g h e xs, e x)

  pub count-total : (f : A → Bool) (g : A → ℕ) → ((x : A) → one (f x) ≡ g x) → (xs : List A) → count f xs ≡ total g xs
  count-total f g e [] = refl
  count-total f g e (x ∷ xs) = omega (arith, count-total f g e xs, e x)

pub total-map : {A B : Type 0} (f : B → ℕ) (g : A → B) (xs : List A) → total f (map g xs) ≡ total (λ x. f (g x)) xs
total-map f g [] = refl
total-map f g (x ∷ xs) = ap (λ (n : ℕ). f (g x) + n) (total-map f g xs)

-- how often a number stands in all lists together
pub times_flatten : (n : ℕ) (ls : List (List ℕ)) → times n (flatten ls) ≡ total (times n) ls
unfolding flatten
times_flatten n [] = refl
times_flatten n (l ∷ ls) = omega (arith, count-append (eqb n) l (flatten ls), times_flatten n ls)

pub total_le : (f g : ℕ → ℕ) (n : ℕ) → ((i : ℕ) → i < n → f i ≤ g i) → total f (upto n) ≤ total g (upto n)
total_le f g n h = go 0 n (λ i l m. h i (omega arith))
  where
    go : (m k : ℕ) → ((i : ℕ) → m ≤ i → i < m + k → f i ≤ g i) → total f (from m k) ≤ total g (from m k)
    go m zero h = omega arith
    go m (suc k) h = omega (arith, h m (omega arith) (omega arith), go (suc m) k (λ i l u. h i (omega arith) (omega arith)))

pub total-same : (f g : ℕ → ℕ) (n : ℕ) → ((i : ℕ) → i < n → f i ≡ g i) → total f (upto n) ≡ total g (upto n)
total-same f g n h =
    omega (arith, total_le f g n (λ i l. omega (arith, h i l)), total_le g f n (λ i l. omega (arith, h i l)))

pub total_ones : (xs : List ℕ) → total (λ (x : ℕ). 1) xs ≡ length xs
total_ones [] = refl
total_ones (x ∷ xs) = omega (arith, total_ones xs)

-- tests that agree below n
pub count-upto-same : (f g : ℕ → Bool) (n : ℕ) → ((i : ℕ) → i < n → f i ≡ g i) → count f (upto n) ≡ count g (upto n)
count-upto-same f g n h =
    count-total f (λ i. one (f i)) (λ i. refl) (upto n) ∙ total-same (λ i. one (f i)) (λ i. one (g i)) n (λ i l. ap one (h i l))
    ∙ sym (count-total g (λ i. one (g i)) (λ i. refl) (upto n))

-- a test that fails from m on
pub count-from-none : (f : ℕ → Bool) (m k : ℕ) → ((i : ℕ) → m ≤ i → f i ≡ false) → count f (from m k) ≡ 0
count-from-none f m zero h = refl
count-from-none f m (suc k) h =
    omega (arith, ap one (h m (omega arith)), count-from-none f (suc m) k (λ i l. h i (omega arith)))

-- ---- weights

pub weight-append : (f : ℕ → Bool) (h : ℕ → ℕ) (us vs ks : List ℕ) → weight f h (us ++ vs) ks ≡ weight f h us ks + weight f h vs ks
weight-append f h us vs ks =
    total-add (λ k. cond (f k) (times (h k) (us ++ vs)) 0) (λ k. cond (f k) (times (h k) us) 0) (λ k. cond (f k) (times (h k) vs) 0)
    (λ k. ap (λ (n : ℕ). cond (f k) n 0) (count-append (eqb (h k)) us vs) ∙ cond_add (f k) (times (h k) us) (times (h k) vs)) ks

pub weight-none : (f : ℕ → Bool) (h : ℕ → ℕ) (ks : List ℕ) → weight f h [] ks ≡ 0
weight-none f h [] = refl
weight-none f h (k ∷ ks) = omega (arith, weight-none f h ks, cond_none (f k))

pub weight_le : (f : ℕ → Bool) (g h : ℕ → ℕ) (us vs : List ℕ) (n : ℕ) → ((k : ℕ) → k < n → times (g k) us ≤ times (h k) vs)
    → weight f g us (upto n) ≤ weight f h vs (upto n)
weight_le f g h us vs n l = total_le _ _ n (λ k m. cond_mono (f k) (l k m))

-- where each stands at most once, no more than there are
pub weight-few : (h : ℕ → ℕ) (us : List ℕ) (n : ℕ) → ((k : ℕ) → k < n → times (h k) us ≤ 1) → weight (λ (k : ℕ). true) h us (upto n) ≤ n
weight-few h us n few =
    omega (arith, total_le (λ k. times (h k) us) (λ k. 1) n few, total_ones (upto n), length_from 0 n)

-- where each stands once, as many as there are
pub weight-all : (h : ℕ → ℕ) (us : List ℕ) (n : ℕ) → ((k : ℕ) → k < n → times (h k) us ≡ 1) → weight (λ (k : ℕ). true) h us (upto n) ≡ n
weight-all h us n e = total-same (λ k. times (h k) us) (λ k. 1) n e ∙ total_ones (upto n) ∙ length_from 0 n

-- ---- a list where each number below n stands once if it passes, and no other number stands

module _ (g : ℕ → Bool) (n : ℕ) (xs : List ℕ) (below : Below n xs) (listed : (k : ℕ) → k < n → times k xs ≡ one (g k)) where
  kept-below : Below n (keep g (upto n))
  kept-below k h = times-keep_past g k n h

  kept-times : (k : ℕ) → k < n → times k xs ≡ times k (keep g (upto n))
  kept-times k h = listed k h ∙ sym (times-keep-upto g k n h)

  pub length-listed : length xs ≡ count g (upto n)
  length-listed = same_length n xs (keep g (upto n)) below kept-below kept-times ∙ length-keep g (upto n)

  pub count-listed : (f : ℕ → Bool) → count f xs ≡ count (λ k. g k && f k) (upto n)
  count-listed f =
      let there = fewer f n xs (keep g (upto n)) below (λ k l. omega (arith, kept-times k l)) in
      let back = fewer f n (keep g (upto n)) xs kept-below (λ k l. omega (arith, kept-times k l)) in
      omega (arith, count-keep (upto n))
    where
      count-keep : (ys : List ℕ) → count f (keep g ys) ≡ count (λ k. g k && f k) ys
      count-keep [] = refl
      count-keep (y ∷ ys) = go (g y) (count-keep ys)
        where
          go : (t : Bool) → count f (keep g ys) ≡ count (λ k. g k && f k) ys
              → count f (cond t (y ∷ keep g ys) (keep g ys)) ≡ one (t && f y) + count (λ k. g k && f k) ys
          go true ih = omega arith
          go false ih = omega arith
