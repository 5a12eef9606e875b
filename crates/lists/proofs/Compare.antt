-- Lists compared number by number: who stands nowhere more often has no more that pass, and a list without repeats fits below its bound.
-- Rests on Count.
use Prim.Native.Nat.{ℕ, zero, suc, ◌+◌, ◌≤◌, ◌<◌}
use native.Mathlib.Decide.{ℕ_discrete, dec_lt}
use native.Mathlib.Omega.{arith}
use mathlib.Core.Path.{◌≡◌, refl, sym, ap, ◌∙◌}
use mathlib.Core.Bool.{Bool, true, false, cond, ◌&&◌}
use mathlib.Core.List.{List, [], ◌∷◌}
use lib.ListN.{length}
use lib.Dec.{eqb, ltb}
use borrow.Author.Tests.{lt-ltb, le-ltb}
use Rattle.lists.specs.Lists.{upto, one, count, times}
use Rattle.lists.proofs.Upto.{length_from}
use Rattle.lists.specs.Bounds.{Below}
use Rattle.lists.proofs.Count.{one_eq, one_ne, one-small, cond_add, cond_mono, cond_none, here, times-upto}

-- a test that also asks for a number below n
abbrev pub low : (ℕ → Bool) → ℕ → ℕ → Bool
low f n x = f x && ltb x n

ltb-step : (x n : ℕ) → (n ≡ x → ⊥) → ltb x (suc n) ≡ ltb x n
ltb-step x n ne = go (dec_lt x n)
  where
    go : Dec (x < n) → ltb x (suc n) ≡ ltb x n
    go (yes h) = lt-ltb x (suc n) (omega arith) ∙ sym (lt-ltb x n h)
    go (no h) = le-ltb x (suc n) (above (ℕ_discrete n x)) ∙ sym (le-ltb x n (omega arith))
      where
        above : Dec (n ≡ x) → suc n ≤ x
        above (yes e) = absurd (ne e)
        above (no ne) = omega arith

low_step : (f : ℕ → Bool) (n x : ℕ) → one (low f (suc n) x) ≡ one (low f n x) + cond (f x) (one (eqb n x)) 0
low_step f n x = go (f x) (ℕ_discrete n x)
  where
    go : (t : Bool) → Dec (n ≡ x) → one (t && ltb x (suc n)) ≡ one (t && ltb x n) + cond t (one (eqb n x)) 0
    go true (yes e) =
        omega (arith, ap one (lt-ltb x (suc n) (omega arith)), ap one (le-ltb x n (omega arith)), one_eq n x e)
    go true (no ne) = omega (arith, ap one (ltb-step x n ne), one_ne n x ne)
    go false d = refl

-- one number more
low-suc : (f : ℕ → Bool) (n : ℕ) (xs : List ℕ) → count (low f (suc n)) xs ≡ count (low f n) xs + cond (f n) (times n xs) 0
low-suc f n [] = omega (arith, cond_none (f n))
low-suc f n (x ∷ xs) =
    omega (arith, low-suc f n xs, low_step f n x, here f n x, cond_add (f n) (one (eqb n x)) (times n xs))

low-none : (f : ℕ → Bool) (xs : List ℕ) → count (low f zero) xs ≡ 0
low-none f [] = refl
low-none f (x ∷ xs) = omega (arith, low-none f xs, nothing (f x))
  where
    nothing : (t : Bool) → one (t && ltb x zero) ≡ 0
    nothing true = ap one (le-ltb x zero (omega arith))
    nothing false = refl

low_le : (f : ℕ → Bool) (n : ℕ) (xs : List ℕ) → count (low f n) xs ≤ count f xs
low_le f n [] = omega arith
low_le f n (x ∷ xs) = omega (arith, low_le f n xs, less (f x) (ltb x n))
  where
    less : (s t : Bool) → one (s && t) ≤ one s
    less true t = one-small t
    less false t = omega arith

low-all : (f : ℕ → Bool) (n : ℕ) (xs : List ℕ) → Below n xs → count (low f n) xs ≡ count f xs
low-all f n [] h = refl
low-all f n (x ∷ xs) h = omega (arith, low-all f n xs (λ k high. omega (arith, h k high)), ap one (whole (dec_lt x n)))
  where
    also : (t : Bool) → (t && true) ≡ t
    also true = refl
    also false = refl

    whole : Dec (x < n) → low f n x ≡ f x
    whole (yes l) = rw (lt-ltb x n l) (also (f x))
    whole (no l) = absurd (omega (arith, h x (omega arith), one_eq x x refl))

-- who stands nowhere more often has no more that pass
pub fewer : (f : ℕ → Bool) (n : ℕ) (xs ys : List ℕ) → Below n xs → ((k : ℕ) → k < n → times k xs ≤ times k ys) → count f xs ≤ count f ys
fewer f n xs ys below h = omega (arith, go n h, low-all f n xs below, low_le f n ys)
  where
    go : (m : ℕ) → ((k : ℕ) → k < m → times k xs ≤ times k ys) → count (low f m) xs ≤ count (low f m) ys
    go zero h = omega (arith, low-none f xs)
    go (suc m) h =
        omega (arith, low-suc f m xs, low-suc f m ys, go m (λ k l. h k (omega arith)), cond_mono (f m) (h m (omega arith)))

-- a number that passes and stands in one list less often than in another
pub record Missed (f : ℕ → Bool) (n : ℕ) (xs ys : List ℕ) : Type 0 where
  pub which : ℕ
  pub known : which < n
  pub passes : f which ≡ true
  pub rarer : times which xs < times which ys

pub missed : (f : ℕ → Bool) (n : ℕ) (xs ys : List ℕ) → Below n ys → count f xs < count f ys → Missed f n xs ys
missed f n xs ys below h = go n (omega (arith, low-all f n ys below, low_le f n xs))
  where
    later : {m : ℕ} → Missed f m xs ys → Missed f (suc m) xs ys
    later r = record { which = r.which; known = omega arith; passes = r.passes; rarer = r.rarer }

    pick : (m : ℕ) (t : Bool) → f m ≡ t → (count (low f m) xs < count (low f m) ys → Missed f m xs ys) → Dec (times m xs < times m ys)
        → count (low f m) xs + cond t (times m xs) 0 < count (low f m) ys + cond t (times m ys) 0 → Missed f (suc m) xs ys
    pick m true e ih (yes r) h = record { which = m; known = omega arith; passes = e; rarer = r }
    pick m true e ih (no nr) h = later (ih (omega arith))
    pick m false e ih d h = later (ih (omega arith))

    go : (m : ℕ) → count (low f m) xs < count (low f m) ys → Missed f m xs ys
    go zero h = absurd (omega (arith, low-none f ys))
    go (suc m) h =
        pick m (f m) refl (go m) (dec_lt (times m xs) (times m ys)) (omega (arith, low-suc f m xs, low-suc f m ys))

count-every : (xs : List ℕ) → count (λ (x : ℕ). true) xs ≡ length xs
count-every [] = refl
count-every (x ∷ xs) = omega (arith, count-every xs)

-- who stands everywhere as often is as many
pub same_length : (n : ℕ) (xs ys : List ℕ) → Below n xs → Below n ys → ((k : ℕ) → k < n → times k xs ≡ times k ys) → length xs ≡ length ys
same_length n xs ys bx by h =
    let there = fewer (λ (x : ℕ). true) n xs ys bx (λ k l. omega (arith, h k l)) in
    let back = fewer (λ (x : ℕ). true) n ys xs by (λ k l. omega (arith, h k l)) in
    omega (arith, count-every xs, count-every ys)

-- ---- lists without repeats

-- one more number, below the bound and new
pub below_more : (k n : ℕ) (xs : List ℕ) → k < n → Below n xs → Below n (k ∷ xs)
below_more k n xs h below j l =
    let ne : j ≡ k → ⊥ = λ e. omega arith in
    omega (arith, below j l, one_ne j k ne)

pub once_more : (k : ℕ) (xs : List ℕ) → times k xs ≡ 0 → ((j : ℕ) → times j xs ≤ 1) → (j : ℕ) → times j (k ∷ xs) ≤ 1
once_more k xs new once j = go (ℕ_discrete j k)
  where
    go : Dec (j ≡ k) → one (eqb j k) + times j xs ≤ 1
    go (yes e) = omega (arith, one_eq j k e, ap (λ (i : ℕ). times i xs) e)
    go (no ne) = omega (arith, one_ne j k ne, once j)

-- no more of them than numbers below the bound
pub fits : (n : ℕ) (xs : List ℕ) → Below n xs → ((k : ℕ) → times k xs ≤ 1) → length xs ≤ n
fits n xs below once =
    omega
    (arith, count-every xs, count-every (upto n), length_from 0 n, fewer (λ (x : ℕ). true) n xs (upto n) below (λ k l. omega (arith, once k, times-upto k n l)))
