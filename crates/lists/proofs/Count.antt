-- How many pass, and how often a number stands in a list: through `++`, `keep`, `flat_map` and numbers in a row.
-- Rests on lists.Upto and the kit's tests on numbers.
use Prim.Native.Nat.{ℕ, zero, suc, ◌+◌, ◌≤◌, ◌<◌}
use native.Mathlib.Decide.{ℕ_discrete}
use native.Mathlib.Omega.{arith}
use mathlib.Core.Path.{◌≡◌, refl, sym, ap, ◌∙◌}
use mathlib.Core.Bool.{Bool, true, false, cond}
use mathlib.Core.List.{List, [], ◌∷◌, ◌++◌, map, flat_map}
use lib.ListN.{length, get_or, take, drop, take-append-drop}
use lib.Seq.{take-suc}
use lib.Dec.{eqb}
use borrow.Author.Tests.{eq-eqb, ne_eqb}
use Rattle.lists.specs.Lists.{from, upto, one, count, keep, times}
use Rattle.lists.proofs.Upto.{count-append}

-- ---- one test

pub one_eq : (a b : ℕ) → a ≡ b → one (eqb a b) ≡ 1
one_eq a b e = ap one (eq-eqb a b e)

pub one_ne : (a b : ℕ) → (a ≡ b → ⊥) → one (eqb a b) ≡ 0
one_ne a b h = ap one (ne_eqb a b h)

pub one-small : (t : Bool) → one t ≤ 1
one-small true = omega arith
one-small false = omega arith

pub one_eq_back : (a b : ℕ) → 1 ≤ one (eqb a b) → a ≡ b
one_eq_back a b h = go (ℕ_discrete a b)
  where
    go : Dec (a ≡ b) → a ≡ b
    go (yes e) = e
    go (no ne) = absurd (omega (arith, one_ne a b ne))

-- a test as a number, and back
pub one-is : (t : Bool) → one t ≡ 1 → t ≡ true
one-is true e = refl
one-is false e = cc

pub one-is_not : (t : Bool) → (one t ≡ 1 → ⊥) → t ≡ false
one-is_not true h = absurd (h refl)
one-is_not false h = refl

pub eqb_sym : (a b : ℕ) → eqb a b ≡ eqb b a
eqb_sym a b = go (ℕ_discrete a b)
  where
    go : Dec (a ≡ b) → eqb a b ≡ eqb b a
    go (yes e) = eq-eqb a b e ∙ sym (eq-eqb b a (sym e))
    go (no ne) = ne_eqb a b ne ∙ sym (ne_eqb b a (λ e. ne (sym e)))

-- ---- append, keep and flat_map

pub length-keep : {A : Type 0} (f : A → Bool) (xs : List A) → length (keep f xs) ≡ count f xs
length-keep f [] = refl
length-keep f (x ∷ xs) = go (f x) (length-keep f xs)
  where
    go : (t : Bool) → length (keep f xs) ≡ count f xs → length (cond t (x ∷ keep f xs) (keep f xs)) ≡ one t + count f xs
    go true ih = omega arith
    go false ih = omega arith

-- a count under a test, which is none where the test fails
pub cond_add : (t : Bool) (m n : ℕ) → cond t (m + n) 0 ≡ cond t m 0 + cond t n 0
cond_add true m n = refl
cond_add false m n = omega arith

pub cond_mono : (t : Bool) {m n : ℕ} → m ≤ n → cond t m 0 ≤ cond t n 0
cond_mono true h = h
cond_mono false h = omega arith

pub cond_small : (t : Bool) (n : ℕ) → cond t n 0 ≤ n
cond_small true n = omega arith
cond_small false n = omega arith

pub cond_none : (t : Bool) → ◌≡◌ {A = ℕ} (cond t 0 0) 0
cond_none true = refl
cond_none false = refl

pub cond_one : (t : Bool) → cond t 1 0 ≡ one t
cond_one true = refl
cond_one false = refl

-- where x is n, a test of x is a test of n
pub here : (f : ℕ → Bool) (n x : ℕ) → cond (f x) (one (eqb n x)) 0 ≡ cond (f n) (one (eqb n x)) 0
here f n x = go (ℕ_discrete n x)
  where
    go : Dec (n ≡ x) → cond (f x) (one (eqb n x)) 0 ≡ cond (f n) (one (eqb n x)) 0
    go (yes e) = ap (λ (y : ℕ). cond (f y) (one (eqb n x)) 0) (sym e)
    go (no ne) = rw (ne_eqb n x ne) (cond_none (f x) ∙ sym (cond_none (f n)))

pub times-keep : (f : ℕ → Bool) (n : ℕ) (xs : List ℕ) → times n (keep f xs) ≡ cond (f n) (times n xs) 0
times-keep f n [] = sym (cond_none (f n))
times-keep f n (x ∷ xs) =
    omega (arith, step (f x) (keep f xs), times-keep f n xs, cond_add (f n) (one (eqb n x)) (times n xs), here f n x)
  where
    step : (t : Bool) (ys : List ℕ) → times n (cond t (x ∷ ys) ys) ≡ cond t (one (eqb n x)) 0 + times n ys
    step true ys = refl
    step false ys = omega arith

-- one more at the end, where a test says so
pub times-append_cond : (n x : ℕ) (xs : List ℕ) (t : Bool) → times n (xs ++ cond t (x ∷ []) []) ≡ times n xs + cond t (one (eqb n x)) 0
times-append_cond n x xs true = omega (arith, count-append (eqb n) xs (x ∷ []))
times-append_cond n x xs false = omega (arith, count-append (eqb n) xs [])

-- ---- numbers in a row

pub times-before : (x n k : ℕ) → x < n → times x (from n k) ≡ 0
times-before x n zero h = refl
times-before x n (suc k) h =
    let ne : x ≡ n → ⊥ = λ e. omega arith in
    omega (arith, times-before x (suc n) k (omega arith), one_ne x n ne)

pub times-after : (x n k : ℕ) → n + k ≤ x → times x (from n k) ≡ 0
times-after x n zero h = refl
times-after x n (suc k) h =
    let ne : x ≡ n → ⊥ = λ e. omega arith in
    omega (arith, times-after x (suc n) k (omega arith), one_ne x n ne)

pub times_among : (x n k : ℕ) → n ≤ x → x < n + k → times x (from n k) ≡ 1
times_among x n zero low high = absurd (omega arith)
times_among x n (suc k) low high = go (ℕ_discrete x n) (times_among x (suc n) k)
  where
    go : Dec (x ≡ n) → (suc n ≤ x → x < suc n + k → times x (from (suc n) k) ≡ 1) → one (eqb x n) + times x (from (suc n) k) ≡ 1
    go (yes e) ih = omega (arith, one_eq x n e, times-before x (suc n) k (omega arith))
    go (no ne) ih = omega (arith, one_ne x n ne, ih (omega arith) (omega arith))

pub times-upto : (x n : ℕ) → x < n → times x (upto n) ≡ 1
times-upto x n h = times_among x 0 n (omega arith) (omega arith)

pub times_past : (x n : ℕ) → n ≤ x → times x (upto n) ≡ 0
times_past x n h = times-after x 0 n (omega arith)

pub times-keep-upto : (f : ℕ → Bool) (k n : ℕ) → k < n → times k (keep f (upto n)) ≡ one (f k)
times-keep-upto f k n h = times-keep f k (upto n) ∙ rw (times-upto k n h) (cond_one (f k))

pub times-keep_past : (f : ℕ → Bool) (k n : ℕ) → n ≤ k → times k (keep f (upto n)) ≡ 0
times-keep_past f k n h = times-keep f k (upto n) ∙ rw (times_past k n h) (cond_none (f k))

-- tests that agree below n keep the same
pub keep-upto : (f g : ℕ → Bool) (n : ℕ) → ((k : ℕ) → k < n → f k ≡ g k) → keep f (upto n) ≡ keep g (upto n)
keep-upto f g n h = go 0 n (λ k l m. h k (omega arith))
  where
    go : (m j : ℕ) → ((k : ℕ) → m ≤ k → k < m + j → f k ≡ g k) → keep f (from m j) ≡ keep g (from m j)
    go m zero h = refl
    go m (suc j) h =
        rw (h m (omega arith) (omega arith), go (suc m) j (λ k l u. h k (omega arith) (omega arith)))

-- where part x of the whole holds n exactly if x is y, n stands there as often as y stands among the parts' numbers
pub times_parts : (f : ℕ → List ℕ) (n y p m : ℕ) → ((x : ℕ) → p ≤ x → x < p + m → times n (f x) ≡ one (eqb y x))
    → times n (flat_map f (from p m)) ≡ times y (from p m)
unfolding flat_map
times_parts f n y p zero h = refl
times_parts f n y p (suc m) h =
    let later = times_parts f n y (suc p) m (λ x l u. h x (omega arith) (omega arith)) in
    omega (arith, count-append (eqb n) (f p) (flat_map f (from (suc p) m)), h p (omega arith) (omega arith))

-- what stands in no part stands nowhere
pub times_nowhere : (f : ℕ → List ℕ) (n : ℕ) → ((x : ℕ) → times n (f x) ≡ 0) → (xs : List ℕ) → times n (flat_map f xs) ≡ 0
unfolding flat_map
times_nowhere f n h [] = refl
times_nowhere f n h (x ∷ xs) =
    omega (arith, count-append (eqb n) (f x) (flat_map f xs), h x, times_nowhere f n h xs)

-- ---- the parts of a list

pub times-take : (x n : ℕ) (xs : List ℕ) → times x (take n xs) ≤ times x xs
times-take x n xs =
    omega (arith, ap (times x) (take-append-drop n xs), count-append (eqb x) (take n xs) (drop n xs))

pub count-take-suc : (f : ℕ → Bool) (xs : List ℕ) (j : ℕ) → j < length xs
    → count f (take (suc j) xs) ≡ count f (take j xs) + one (f (get_or xs j 0))
count-take-suc f xs j h =
    omega (arith, ap (count f) (take-suc xs j 0 h), count-append f (take j xs) (get_or xs j 0 ∷ []))

-- ---- the same count, of other things

pub count_map : {A B : Type 0} (f : B → Bool) (g : A → B) (xs : List A) → count f (map g xs) ≡ count (λ x. f (g x)) xs
count_map f g [] = refl
count_map f g (x ∷ xs) = ap (λ (n : ℕ). one (f (g x)) + n) (count_map f g xs)

pub count_same : {A : Type 0} (f g : A → Bool) → ((x : A) → f x ≡ g x) → (xs : List A) → count f xs ≡ count g xs
count_same f g h [] = refl
count_same f g h (x ∷ xs) = ap (λ (t : Bool). one t + count f xs) (h x) ∙ ap (λ (n : ℕ). one (g x) + n) (count_same f g h xs)
