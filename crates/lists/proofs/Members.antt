-- Membership in a list of anything, joined to counts: what is a member counts, and what counts has a member.
-- Rests on mathlib's `List.Memᴰ` and on Count.
use Prim.Native.Nat.{ℕ, ◌+◌, ◌≤◌, ◌<◌}
use native.Mathlib.Decide.{ℕ_discrete, dec_lt}
use native.Mathlib.Omega.{arith}
use mathlib.Core.Path.{◌≡◌, refl, ap, ap₂}
use mathlib.Core.Logic.{◌⊎◌, inl, inr}
use mathlib.Core.Bool.{Bool, true, false, cond, ◌||◌}
use mathlib.Core.List.Memᴰ
use mathlib.Core.List.{List, [], ◌∷◌, map, Memᴰ}
use lib.Dec.{eqb}
use borrow.Author.Tests.{eq-eqb}
use Rattle.lists.specs.Lists.{one, keep, count, member, times}
use Rattle.lists.specs.Bounds.{Below}
use Rattle.lists.proofs.Count.{one_eq, one_ne}

module _ {A : Type 0} where
  pub member-count : (f : A → Bool) {x : A} {xs : List A} → Memᴰ x xs → f x ≡ true → 1 ≤ count f xs
  member-count f (Memᴰ.head {x = y} {xs = ys} e) p = omega (arith, ap (λ (z : A). one (f z)) e, ap one p)
  member-count f (Memᴰ.tail {x = y} {xs = ys} m) p = omega (arith, member-count f m p)

  -- tests that agree on the members
  pub count_members : (f g : A → Bool) (xs : List A) → ((x : A) → Memᴰ x xs → f x ≡ g x) → count f xs ≡ count g xs
  count_members f g [] h = refl
  count_members f g (x ∷ xs) h =
      omega (arith, ap one (h x (Memᴰ.head refl)), count_members f g xs (λ y m. h y (Memᴰ.tail m)))

  pub keep_nothing : (f : A → Bool) (xs : List A) → ((x : A) → Memᴰ x xs → f x ≡ false) → keep f xs ≡ []
  keep_nothing f [] h = refl
  keep_nothing f (x ∷ xs) h = rw (h x (Memᴰ.head refl)) (keep_nothing f xs (λ y m. h y (Memᴰ.tail m)))

  -- tests that agree on the members keep the same
  pub keep_members : (f g : A → Bool) (xs : List A) → ((x : A) → Memᴰ x xs → f x ≡ g x) → keep f xs ≡ keep g xs
  keep_members f g [] h = refl
  keep_members f g (x ∷ xs) h =
      ap₂ (λ (t : Bool) (ys : List A). cond t (x ∷ ys) ys) (h x (Memᴰ.head refl)) (keep_members f g xs (λ y m. h y (Memᴰ.tail m)))

  pub keep-there : (f : A → Bool) {x : A} (xs : List A) → Memᴰ x (keep f xs) → Memᴰ x xs
  keep-there f [] m = m
  keep-there f {x} (y ∷ ys) m = go (f y) m (keep-there f ys)
    where
      there : (x ≡ y) ⊎ Memᴰ x (keep f ys) → (Memᴰ x (keep f ys) → Memᴰ x ys) → Memᴰ x (y ∷ ys)
      there (inl e) ih = Memᴰ.head e
      there (inr n) ih = Memᴰ.tail (ih n)

      go : (t : Bool) → Memᴰ x (cond t (y ∷ keep f ys) (keep f ys)) → (Memᴰ x (keep f ys) → Memᴰ x ys) → Memᴰ x (y ∷ ys)
      go true m ih = there (Memᴰ.cases_cons m) ih
      go false m ih = Memᴰ.tail (ih m)

  -- numbers that agree on the members
  pub map_members : (f g : A → ℕ) (xs : List A) → ((x : A) → Memᴰ x xs → f x ≡ g x) → map f xs ≡ map g xs
  map_members f g [] h = refl
  map_members f g (x ∷ xs) h =
      ap₂ (λ (y : ℕ) (ys : List ℕ). y ∷ ys) (h x (Memᴰ.head refl)) (map_members f g xs (λ y m. h y (Memᴰ.tail m)))

  -- a member whose number is n
  pub record MemberFor (g : A → ℕ) (n : ℕ) (xs : List A) : Type 0 where
    pub which : A
    pub there : Memᴰ which xs
    pub has : n ≡ g which

  pub member_for : (g : A → ℕ) (n : ℕ) (xs : List A) → 1 ≤ times n (map g xs) → MemberFor g n xs
  member_for g n [] h = absurd (omega arith)
  member_for g n (x ∷ xs) h = go (ℕ_discrete n (g x)) (member_for g n xs)
    where
      go : Dec (n ≡ g x) → (1 ≤ times n (map g xs) → MemberFor g n xs) → MemberFor g n (x ∷ xs)
      go (yes e) ih = record { which = x; there = Memᴰ.head refl; has = e }
      go (no ne) ih =
          let m = ih (omega (arith, one_ne n (g x) ne)) in
          record { which = m.which; there = Memᴰ.tail m.there; has = m.has }

  pub member-times : (g : A → ℕ) {x : A} {xs : List A} → Memᴰ x xs → 1 ≤ times (g x) (map g xs)
  member-times g {x} (Memᴰ.head {x = y} {xs = ys} e) = omega (arith, one_eq (g x) (g y) (ap g e))
  member-times g {x} (Memᴰ.tail {x = y} {xs = ys} m) = omega (arith, member-times g m)

  pub below_members : (g : A → ℕ) (n : ℕ) (xs : List A) → ((x : A) → Memᴰ x xs → g x < n) → Below n (map g xs)
  below_members g n [] h k l = refl
  below_members g n (x ∷ xs) h k l =
      let ne : k ≡ g x → ⊥ = λ e. omega (arith, h x (Memᴰ.head refl)) in
      omega (arith, one_ne k (g x) ne, below_members g n xs (λ y m. h y (Memᴰ.tail m)) k l)

  -- what is kept is no more
  pub times-kept : (g : A → ℕ) (f : A → Bool) (n : ℕ) (xs : List A) → times n (map g (keep f xs)) ≤ times n (map g xs)
  times-kept g f n [] = omega arith
  times-kept g f n (x ∷ xs) = go (f x) (times-kept g f n xs)
    where
      go : (t : Bool) → times n (map g (keep f xs)) ≤ times n (map g xs)
          → times n (map g (cond t (x ∷ keep f xs) (keep f xs))) ≤ one (eqb n (g x)) + times n (map g xs)
      go true ih = omega arith
      go false ih = omega arith

-- ---- the test for a number

pub member_yes : (n : ℕ) (xs : List ℕ) → 1 ≤ times n xs → member n xs ≡ true
member_yes n [] h = absurd (omega arith)
member_yes n (x ∷ xs) h = go (eqb n x) refl (member_yes n xs)
  where
    go : (t : Bool) → eqb n x ≡ t → (1 ≤ times n xs → member n xs ≡ true) → (t || member n xs) ≡ true
    go true e ih = refl
    go false e ih = ih (omega (arith, ap one e))

pub member_no : (n : ℕ) (xs : List ℕ) → times n xs ≡ 0 → member n xs ≡ false
member_no n [] h = refl
member_no n (x ∷ xs) h = go (eqb n x) refl (member_no n xs)
  where
    go : (t : Bool) → eqb n x ≡ t → (times n xs ≡ 0 → member n xs ≡ false) → (t || member n xs) ≡ false
    go true e ih = absurd (omega (arith, ap one e))
    go false e ih = ih (omega arith)

-- where it stands at most once
pub times-member : (n : ℕ) (xs : List ℕ) → times n xs ≤ 1 → times n xs ≡ one (member n xs)
times-member n xs h = go (ℕ_discrete (times n xs) 0)
  where
    go : Dec (times n xs ≡ 0) → times n xs ≡ one (member n xs)
    go (yes e) = omega (arith, ap one (member_no n xs e))
    go (no ne) = omega (arith, ap one (member_yes n xs (omega arith)))

-- a member of a list below n
pub member_below : {n x : ℕ} {xs : List ℕ} → Below n xs → Memᴰ x xs → x < n
member_below {n} {x} {xs} below m = go (dec_lt x n)
  where
    go : Dec (x < n) → x < n
    go (yes l) = l
    go (no l) = absurd (omega (arith, below x (omega arith), member-count (eqb x) m (eq-eqb x x refl)))

-- functions that agree below n, over a list of numbers below n
pub map_below : (f g : ℕ → ℕ) (n : ℕ) (xs : List ℕ) → Below n xs → ((k : ℕ) → k < n → f k ≡ g k) → map f xs ≡ map g xs
map_below f g n xs below h = map_members f g xs (λ x m. h x (member_below below m))
