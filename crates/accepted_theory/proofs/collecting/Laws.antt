-- Laws on lists of numbers that collecting rests on: each number once, the smallest and the largest, rising lists by place.
-- Rests on lists' Count, Upto and Places; knows nothing of graphs.
use Prim.Native.Nat.{ℕ, zero, suc, ◌+◌, ◌≤◌, ◌<◌, min, max}
use native.Mathlib.Decide.{ℕ_discrete, dec_lt}
use native.Mathlib.Omega.{arith}
use mathlib.Core.Path.{◌≡◌, refl, ap, ap₂, ◌∙◌}
use mathlib.Core.Logic.{inl, inr}
use mathlib.Core.Bool.{Bool, true, false, not, ◌&&◌, ◌||◌, cond, false≢true}
use mathlib.Core.List.{List, [], ◌∷◌, ◌++◌, map}
use lib.ListN.{length, get_or}
use lib.Dec.{eqb}
use Rattle.lists.specs.Lists.{one, all, count, keep, member, times, once, least, greatest, In, Distinct, Rising}
use Rattle.lists.specs.Bounds.{Below}
use Rattle.lists.proofs.Upto.{keep_append}
use Rattle.lists.proofs.Count.{one_eq, one_ne, one-small, eqb_sym, times-keep}
use Rattle.lists.proofs.Places.{times_in, times_in_back}

-- ---- functions and tests that agree on a list's numbers

module _ {A : Type 0} where
  pub map_in : (f g : ℕ → A) (xs : List ℕ) → ((x : ℕ) → In x xs → f x ≡ g x) → map f xs ≡ map g xs
  map_in f g [] h = refl
  map_in f g (x ∷ xs) h =
      ap₂ (λ (y : A) (ys : List A). y ∷ ys) (h x (inl refl)) (map_in f g xs (λ y i. h y (inr i)))

pub all_in : (f g : ℕ → Bool) (xs : List ℕ) → ((x : ℕ) → In x xs → f x ≡ g x) → all f xs ≡ all g xs
all_in f g [] h = refl
all_in f g (x ∷ xs) h =
    ap₂ (λ (s t : Bool). s && t) (h x (inl refl)) (all_in f g xs (λ y i. h y (inr i)))

pub all_passes : (f : ℕ → Bool) (xs : List ℕ) → ((x : ℕ) → In x xs → f x ≡ true) → all f xs ≡ true
all_passes f [] h = refl
all_passes f (x ∷ xs) h = rw (h x (inl refl)) (all_passes f xs (λ y i. h y (inr i)))

pub all-passed : (f : ℕ → Bool) (xs : List ℕ) → all f xs ≡ true → (x : ℕ) → In x xs → f x ≡ true
all-passed f [] e x i = absurd i
all-passed f (y ∷ ys) e x i = go (f y) refl e i (all-passed f ys)
  where
    go : (t : Bool) → f y ≡ t → (t && all f ys) ≡ true → In x (y ∷ ys) → (all f ys ≡ true → (z : ℕ) → In z ys → f z ≡ true) → f x ≡ true
    go true q e (inl p) ih = ap f p ∙ q
    go true q e (inr i) ih = ih e x i
    go false q e i ih = absurd (false≢true e)

pub all_map : {A : Type 0} (f : A → Bool) (g : ℕ → A) (xs : List ℕ) → all f (map g xs) ≡ all (λ x. f (g x)) xs
all_map f g [] = refl
all_map f g (x ∷ xs) = ap (λ (t : Bool). f (g x) && t) (all_map f g xs)

pub count_most : {A : Type 0} (f : A → Bool) (xs : List A) → count f xs ≤ length xs
count_most f [] = omega arith
count_most f (x ∷ xs) = omega (arith, count_most f xs, one-small (f x))

-- ---- numbers below a bound, and no number twice

pub below_in : (n : ℕ) (xs : List ℕ) → ((x : ℕ) → In x xs → x < n) → Below n xs
below_in n [] h k l = refl
below_in n (x ∷ xs) h k l =
    let ne : k ≡ x → ⊥ = λ e. omega (arith, h x (inl refl)) in
    omega (arith, one_ne k x ne, below_in n xs (λ y i. h y (inr i)) k l)

pub below_places : (n : ℕ) (xs : List ℕ) → ((i : ℕ) → i < length xs → get_or xs i 0 < n) → Below n xs
below_places n [] h k l = refl
below_places n (x ∷ xs) h k l =
    let ne : k ≡ x → ⊥ = λ e. omega (arith, h 0 (omega arith)) in
    omega (arith, one_ne k x ne, below_places n xs (λ i m. h (suc i) (omega arith)) k l)

pub in_below : (n : ℕ) (xs : List ℕ) → Below n xs → (x : ℕ) → In x xs → x < n
in_below n xs below x i = go (dec_lt x n)
  where
    go : Dec (x < n) → x < n
    go (yes l) = l
    go (no l) = absurd (omega (arith, below x (omega arith), times_in x xs i))

pub times-distinct : (xs : List ℕ) → Distinct xs → (x : ℕ) → times x xs ≤ 1
times-distinct [] d x = omega arith
times-distinct (y ∷ ys) d x = go (ℕ_discrete x y) (dec_lt 0 (times x ys)) (times-distinct ys d.1 x)
  where
    go : Dec (x ≡ y) → Dec (0 < times x ys) → times x ys ≤ 1 → one (eqb x y) + times x ys ≤ 1
    go (yes e) (yes l) ih = absurd (d.0 (rw (← e) (times_in_back x ys l)))
    go (yes e) (no l) ih = omega (arith, one_eq x y e)
    go (no ne) l ih = omega (arith, one_ne x y ne)

pub times-map : (g : ℕ → ℕ) (x : ℕ) (xs : List ℕ) → In x xs → 1 ≤ times (g x) (map g xs)
times-map g x [] i = absurd i
times-map g x (y ∷ ys) (inl e) = omega (arith, one_eq (g x) (g y) (ap g e))
times-map g x (y ∷ ys) (inr i) = omega (arith, times-map g x ys i)

-- ---- each number once

pub times-once : (n : ℕ) (xs : List ℕ) → times n (once xs) ≡ one (member n xs)
times-once n [] = refl
times-once n (x ∷ xs) = go (eqb n x) refl (times-once n xs)
  where
    kept : (t : Bool) → eqb n x ≡ t → times n (keep (λ y. not (eqb x y)) (once xs)) ≡ cond (not t) (times n (once xs)) 0
    kept t e =
        times-keep (λ y. not (eqb x y)) n (once xs) ∙ ap (λ (s : Bool). cond (not s) (times n (once xs)) 0) (eqb_sym x n ∙ e)

    go : (t : Bool) → eqb n x ≡ t → times n (once xs) ≡ one (member n xs)
        → one t + times n (keep (λ y. not (eqb x y)) (once xs)) ≡ one (t || member n xs)
    go true e ih = omega (arith, kept true e)
    go false e ih = omega (arith, kept false e)

-- one more at the end stands there if it stood nowhere before
pub once_snoc : (xs : List ℕ) (x : ℕ) → once (xs ++ (x ∷ [])) ≡ once xs ++ cond (member x xs) [] (x ∷ [])
once_snoc [] x = refl
once_snoc (y ∷ ys) x =
    ap (λ (l : List ℕ). y ∷ l)
    (ap (keep other) (once_snoc ys x) ∙ keep_append other (once ys) (cond (member x ys) [] (x ∷ []))
    ∙ ap (λ (l : List ℕ). keep other (once ys) ++ l) (last (member x ys) (eqb x y) (eqb_sym y x)))
  where
    other : ℕ → Bool
    other z = not (eqb y z)

    last : (m t : Bool) → eqb y x ≡ t → keep other (cond m [] (x ∷ [])) ≡ cond (t || m) [] (x ∷ [])
    last true true e = refl
    last true false e = refl
    last false true e = rw e
    last false false e = rw e

-- ---- the smallest and the largest

pub least_snoc : (x : ℕ) (xs : List ℕ) (p : ℕ) → least ((x ∷ xs) ++ (p ∷ [])) ≡ min p (least (x ∷ xs))
least_snoc x [] p = omega arith
least_snoc x (y ∷ ys) p = omega (arith, least_snoc y ys p)

pub greatest_snoc : (xs : List ℕ) (p : ℕ) → greatest (xs ++ (p ∷ [])) ≡ max p (greatest xs)
greatest_snoc [] p = refl
greatest_snoc (x ∷ xs) p = omega (arith, greatest_snoc xs p)

pub least-below : (y : ℕ) (xs : List ℕ) → 1 ≤ times y xs → least xs ≤ y
least-below y [] h = absurd (omega arith)
least-below y (x ∷ []) h = go (ℕ_discrete y x)
  where
    go : Dec (y ≡ x) → x ≤ y
    go (yes e) = omega arith
    go (no ne) = absurd (omega (arith, one_ne y x ne))
least-below y (x ∷ (z ∷ zs)) h = go (ℕ_discrete y x) (least-below y (z ∷ zs))
  where
    go : Dec (y ≡ x) → (1 ≤ times y (z ∷ zs) → least (z ∷ zs) ≤ y) → min x (least (z ∷ zs)) ≤ y
    go (yes e) ih = omega arith
    go (no ne) ih = omega (arith, ih (omega (arith, one_ne y x ne)))

pub greatest-above : (y : ℕ) (xs : List ℕ) → 1 ≤ times y xs → y ≤ greatest xs
greatest-above y [] h = absurd (omega arith)
greatest-above y (x ∷ xs) h = go (ℕ_discrete y x) (greatest-above y xs)
  where
    go : Dec (y ≡ x) → (1 ≤ times y xs → y ≤ greatest xs) → y ≤ max x (greatest xs)
    go (yes e) ih = omega arith
    go (no ne) ih = omega (arith, ih (omega (arith, one_ne y x ne)))

pub least-there : (x : ℕ) (xs : List ℕ) → 1 ≤ times (least (x ∷ xs)) (x ∷ xs)
least-there x [] = omega (arith, one_eq x x refl)
least-there x (y ∷ ys) = go (least-there y ys) (dec_lt x (least (y ∷ ys)))
  where
    go : 1 ≤ times (least (y ∷ ys)) (y ∷ ys) → Dec (x < least (y ∷ ys)) → 1 ≤ times (min x (least (y ∷ ys))) (x ∷ (y ∷ ys))
    go ih (yes l) = omega (arith, one_eq (min x (least (y ∷ ys))) x (omega arith))
    go ih (no l) =
        let e : min x (least (y ∷ ys)) ≡ least (y ∷ ys) = omega arith in
        omega (arith, ap (λ (m : ℕ). times m (y ∷ ys)) e)

pub greatest-there : (x : ℕ) (xs : List ℕ) → 1 ≤ times (greatest (x ∷ xs)) (x ∷ xs)
greatest-there x [] = omega (arith, one_eq (max x 0) x (omega arith))
greatest-there x (y ∷ ys) = go (greatest-there y ys) (dec_lt x (greatest (y ∷ ys)))
  where
    go : 1 ≤ times (greatest (y ∷ ys)) (y ∷ ys) → Dec (x < greatest (y ∷ ys)) → 1 ≤ times (max x (greatest (y ∷ ys))) (x ∷ (y ∷ ys))
    go ih (yes l) =
        let e : max x (greatest (y ∷ ys)) ≡ greatest (y ∷ ys) = omega arith in
        omega (arith, ap (λ (m : ℕ). times m (y ∷ ys)) e)
    go ih (no l) = omega (arith, one_eq (max x (greatest (y ∷ ys))) x (omega arith))

-- lists in which every number stands as often
pub least-same : (xs ys : List ℕ) → ((n : ℕ) → times n xs ≡ times n ys) → least xs ≡ least ys
least-same [] [] h = refl
least-same [] (y ∷ ys) h = absurd (omega (arith, h y, one_eq y y refl))
least-same (x ∷ xs) [] h = absurd (omega (arith, h x, one_eq x x refl))
least-same (x ∷ xs) (y ∷ ys) h =
    omega (
      arith,
      least-below (least (y ∷ ys)) (x ∷ xs) (omega (arith, h (least (y ∷ ys)), least-there y ys)),
      least-below (least (x ∷ xs)) (y ∷ ys) (omega (arith, h (least (x ∷ xs)), least-there x xs)),
    )

pub greatest-same : (xs ys : List ℕ) → ((n : ℕ) → times n xs ≡ times n ys) → greatest xs ≡ greatest ys
greatest-same [] [] h = refl
greatest-same [] (y ∷ ys) h = absurd (omega (arith, h y, one_eq y y refl))
greatest-same (x ∷ xs) [] h = absurd (omega (arith, h x, one_eq x x refl))
greatest-same (x ∷ xs) (y ∷ ys) h =
    omega (
      arith,
      greatest-above (greatest (y ∷ ys)) (x ∷ xs) (omega (arith, h (greatest (y ∷ ys)), greatest-there y ys)),
      greatest-above (greatest (x ∷ xs)) (y ∷ ys) (omega (arith, h (greatest (x ∷ xs)), greatest-there x xs)),
    )

-- ---- rising lists, by place

pub rising_places : (xs : List ℕ) → Rising xs → (i j : ℕ) → i < j → j < length xs → get_or xs i 0 < get_or xs j 0
rising_places [] r i j l h = absurd (omega arith)
rising_places (x ∷ []) r i j l h = absurd (omega arith)
rising_places (x ∷ (y ∷ ys)) r i zero l h = absurd (omega arith)
rising_places (x ∷ (y ∷ ys)) r zero (suc zero) l h = r.0
rising_places (x ∷ (y ∷ ys)) r zero (suc (suc j)) l h =
    omega (arith, r.0, rising_places (y ∷ ys) r.1 zero (suc j) (omega arith) (omega arith))
rising_places (x ∷ (y ∷ ys)) r (suc i) (suc j) l h = rising_places (y ∷ ys) r.1 i j (omega arith) (omega arith)

pub rising-rest : (x : ℕ) (xs : List ℕ) → Rising (x ∷ xs) → Rising xs
rising-rest x [] r = tt
rising-rest x (y ∷ ys) r = r.1

-- what stands behind the first is above it
pub rising-above : (x : ℕ) (xs : List ℕ) → Rising (x ∷ xs) → (y : ℕ) → 1 ≤ times y xs → x < y
rising-above x [] r y h = absurd (omega arith)
rising-above x (z ∷ zs) r y h = go (ℕ_discrete y z) (rising-above z zs r.1 y)
  where
    go : Dec (y ≡ z) → (1 ≤ times y zs → z < y) → x < y
    go (yes e) ih = omega (arith, r.0)
    go (no ne) ih = omega (arith, r.0, ih (omega (arith, one_ne y z ne)))
