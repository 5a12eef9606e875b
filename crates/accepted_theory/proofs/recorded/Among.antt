-- Tests over a list by its members: `any` has a witness, `all` holds of each, `keep`, `flat_map` and `once` hold what they should.
-- Rests on lists.Members and on mathlib's `List.Memᴰ`.
use Prim.Native.Nat.{ℕ, ◌+◌, ◌≤◌, ◌<◌}
use native.Mathlib.Decide.{ℕ_discrete, dec_lt}
use native.Mathlib.Omega.{arith}
use mathlib.Core.Path.{◌≡◌, refl, sym, ap, ◌∙◌}
use mathlib.Core.Logic.{◌⊎◌, inl, inr}
use mathlib.Core.Bool.{Bool, true, false, not, ◌&&◌, ◌||◌, cond, or-true, false≢true}
use mathlib.Core.List.Memᴰ
use mathlib.Core.List.{
  List,
  [],
  ◌∷◌,
  flat_map,
  Memᴰ,
}
use lib.Dec.{eqb}
use borrow.Author.Tests.{eq-eqb, ne_eqb, eqb-true}
use Rattle.lists.specs.Lists.{upto, one, all, any, keep, member, times, once, Distinct}
use Rattle.lists.proofs.Count.{one_eq, one_ne, times-keep, times_past, times-upto}
use Rattle.lists.proofs.Members.{member-count, member_yes, keep-there}
use Rattle.lists.proofs.Places.{times_in_back}

-- two tests that pass together are the same
pub same_truth : (s t : Bool) → (s ≡ true → t ≡ true) → (t ≡ true → s ≡ true) → s ≡ t
same_truth true t f g = sym (f refl)
same_truth false true f g = g refl
same_truth false false f g = refl

pub and_both : (s t : Bool) → (s && t) ≡ true → (s ≡ true) × (t ≡ true)
and_both true t e = (refl, e)
and_both false t e = absurd (false≢true e)

pub and_rest : (s t : Bool) → (s && t) ≡ false → s ≡ true → t ≡ false
and_rest true t e p = e
and_rest false t e p = absurd (false≢true p)

-- ---- any and all

module _ {A : Type 0} where
  -- a member that passes
  pub record MemberPassing (f : A → Bool) (xs : List A) : Type 0 where
    pub which : A
    pub there : Memᴰ which xs
    pub passes : f which ≡ true

  pub any_at : (f : A → Bool) {x : A} {xs : List A} → Memᴰ x xs → f x ≡ true → any f xs ≡ true
  any_at f (Memᴰ.head {x = y} {xs = ys} e) p = ap (λ (t : Bool). t || any f ys) (ap f (sym e) ∙ p)
  any_at f (Memᴰ.tail {x = y} {xs = ys} m) p = ap (λ (t : Bool). f y || t) (any_at f m p) ∙ or-true (f y)

  pub any_by : (f : A → Bool) (xs : List A) → any f xs ≡ true → MemberPassing f xs
  any_by f [] e = absurd (false≢true e)
  any_by f (x ∷ xs) e = go (f x) refl e (any_by f xs)
    where
      go : (t : Bool) → f x ≡ t → (t || any f xs) ≡ true → (any f xs ≡ true → MemberPassing f xs) → MemberPassing f (x ∷ xs)
      go true p e ih = record { which = x; there = Memᴰ.head refl; passes = p }
      go false p e ih =
          let w = ih e in
          record { which = w.which; there = Memᴰ.tail w.there; passes = w.passes }

  pub any_none : (f : A → Bool) (xs : List A) → ((x : A) → Memᴰ x xs → f x ≡ false) → any f xs ≡ false
  any_none f [] h = refl
  any_none f (x ∷ xs) h =
      ap (λ (t : Bool). t || any f xs) (h x (Memᴰ.head refl)) ∙ any_none f xs (λ y m. h y (Memᴰ.tail m))

  pub none_at : (f : A → Bool) {x : A} {xs : List A} → any f xs ≡ false → Memᴰ x xs → f x ≡ false
  none_at f {x} e m = go (f x) refl
    where
      go : (t : Bool) → f x ≡ t → t ≡ false
      go true p = sym (any_at f m p) ∙ e
      go false p = refl

  -- a test that says the same of every member, and there is one
  pub any_alike : (f : A → Bool) (t : Bool) {x : A} {xs : List A} → Memᴰ x xs → ((y : A) → Memᴰ y xs → f y ≡ t) → any f xs ≡ t
  any_alike f true {x} m h = any_at f m (h x m)
  any_alike f false {x} {xs} m h = any_none f xs h

  pub all_at : (f : A → Bool) {x : A} {xs : List A} → all f xs ≡ true → Memᴰ x xs → f x ≡ true
  all_at f e (Memᴰ.head {x = y} {xs = ys} q) = ap f q ∙ (and_both (f y) (all f ys) e).0
  all_at f e (Memᴰ.tail {x = y} {xs = ys} m) = all_at f (and_both (f y) (all f ys) e).1 m

  pub all_members : (f : A → Bool) (xs : List A) → ((x : A) → Memᴰ x xs → f x ≡ true) → all f xs ≡ true
  all_members f [] h = refl
  all_members f (x ∷ xs) h =
      ap (λ (t : Bool). t && all f xs) (h x (Memᴰ.head refl)) ∙ all_members f xs (λ y m. h y (Memᴰ.tail m))

  -- ---- what is kept

  pub keep_at : (f : A → Bool) {x : A} {xs : List A} → Memᴰ x xs → f x ≡ true → Memᴰ x (keep f xs)
  keep_at f {x} (Memᴰ.head {x = y} {xs = ys} e) p = go (f y) (ap f (sym e) ∙ p)
    where
      go : (t : Bool) → t ≡ true → Memᴰ x (cond t (y ∷ keep f ys) (keep f ys))
      go true q = Memᴰ.head e
      go false q = absurd (false≢true q)
  keep_at f {x} (Memᴰ.tail {x = y} {xs = ys} m) p = go (f y) (keep_at f m p)
    where
      go : (t : Bool) → Memᴰ x (keep f ys) → Memᴰ x (cond t (y ∷ keep f ys) (keep f ys))
      go true n = Memᴰ.tail n
      go false n = n

  pub keep_passes : (f : A → Bool) {x : A} (xs : List A) → Memᴰ x (keep f xs) → f x ≡ true
  keep_passes f [] m = absurd (Memᴰ.not-nil m)
  keep_passes f {x} (y ∷ ys) m = go (f y) refl m (keep_passes f ys)
    where
      pick : f y ≡ true → (Memᴰ x (keep f ys) → f x ≡ true) → (x ≡ y) ⊎ Memᴰ x (keep f ys) → f x ≡ true
      pick p ih (inl e) = ap f e ∙ p
      pick p ih (inr n) = ih n

      go : (t : Bool) → f y ≡ t → Memᴰ x (cond t (y ∷ keep f ys) (keep f ys)) → (Memᴰ x (keep f ys) → f x ≡ true) → f x ≡ true
      go true p m ih = pick p ih (Memᴰ.cases_cons m)
      go false p m ih = ih m

-- ---- a member by how often it stands

pub there-times : {x : ℕ} {xs : List ℕ} → Memᴰ x xs → 1 ≤ times x xs
there-times {x} m = member-count (eqb x) m (eq-eqb x x refl)

pub member_at : {x : ℕ} {xs : List ℕ} → Memᴰ x xs → member x xs ≡ true
member_at {x} m = any_at (eqb x) m (eq-eqb x x refl)

pub member_in : (x : ℕ) (xs : List ℕ) → member x xs ≡ true → Memᴰ x xs
member_in x xs e =
    let w = any_by (eqb x) xs e in
    Memᴰ.cast (eqb-true x w.which w.passes) w.there

pub times-there : (x : ℕ) (xs : List ℕ) → 1 ≤ times x xs → Memᴰ x xs
times-there x xs h = member_in x xs (member_yes x xs h)

-- ---- numbers in a row

pub upto_at : (k n : ℕ) → k < n → Memᴰ k (upto n)
upto_at k n h = times-there k (upto n) (omega (arith, times-upto k n h))

pub upto-below : (k n : ℕ) → Memᴰ k (upto n) → k < n
upto-below k n m = go (dec_lt k n)
  where
    go : Dec (k < n) → k < n
    go (yes h) = h
    go (no h) = absurd (omega (arith, there-times m, times_past k n (omega arith)))

-- ---- lists laid one after the other

module _ {A B : Type 0} (f : A → List B) where
  pub record PartOf (y : B) (xs : List A) : Type 0 where
    pub which : A
    pub there : Memᴰ which xs
    pub holds : Memᴰ y (f which)

  pub flat_map_at : {x : A} {y : B} {xs : List A} → Memᴰ x xs → Memᴰ y (f x) → Memᴰ y (flat_map f xs)
  unfolding flat_map
  flat_map_at {x} {y} (Memᴰ.head {x = z} {xs = zs} e) n = Memᴰ.append_left (flat_map f zs) (rw e at n)
  flat_map_at (Memᴰ.tail {x = z} {xs = zs} m) n = Memᴰ.append_right (f z) (flat_map_at m n)

  pub flat_map_by : (y : B) (xs : List A) → Memᴰ y (flat_map f xs) → PartOf y xs
  unfolding flat_map
  flat_map_by y [] m = absurd (Memᴰ.not-nil m)
  flat_map_by y (x ∷ xs) m = go (Memᴰ.append_cases (f x) m) (flat_map_by y xs)
    where
      go : Memᴰ y (f x) ⊎ Memᴰ y (flat_map f xs) → (Memᴰ y (flat_map f xs) → PartOf y xs) → PartOf y (x ∷ xs)
      go (inl n) ih = record { which = x; there = Memᴰ.head refl; holds = n }
      go (inr n) ih =
          let w = ih n in
          record { which = w.which; there = Memᴰ.tail w.there; holds = w.holds }

-- ---- each number once

pub once_at : (x : ℕ) (xs : List ℕ) → Memᴰ x xs → Memᴰ x (once xs)
once_at x [] m = m
once_at x (y ∷ ys) m = go (ℕ_discrete x y) (Memᴰ.cases_cons m) (once_at x ys)
  where
    later : (x ≡ y → ⊥) → Memᴰ x (once ys) → Memᴰ x (once (y ∷ ys))
    later ne n = Memᴰ.tail (keep_at (λ z. not (eqb y z)) n (ap not (ne_eqb y x (λ e. ne (sym e)))))

    go : Dec (x ≡ y) → (x ≡ y) ⊎ Memᴰ x ys → (Memᴰ x ys → Memᴰ x (once ys)) → Memᴰ x (once (y ∷ ys))
    go (yes e) w ih = Memᴰ.head e
    go (no ne) (inl e) ih = absurd (ne e)
    go (no ne) (inr n) ih = later ne (ih n)

pub once_by : (x : ℕ) (xs : List ℕ) → Memᴰ x (once xs) → Memᴰ x xs
once_by x [] m = m
once_by x (y ∷ ys) m = go (Memᴰ.cases_cons m) (once_by x ys)
  where
    go : (x ≡ y) ⊎ Memᴰ x (keep (λ z. not (eqb y z)) (once ys)) → (Memᴰ x (once ys) → Memᴰ x ys) → Memᴰ x (y ∷ ys)
    go (inl e) ih = Memᴰ.head e
    go (inr n) ih = Memᴰ.tail (ih (keep-there (λ z. not (eqb y z)) (once ys) n))

pub times-once : (k : ℕ) (xs : List ℕ) → times k (once xs) ≤ 1
times-once k [] = omega arith
times-once k (x ∷ xs) = go (ℕ_discrete k x) (times-once k xs) (times-keep (λ z. not (eqb x z)) k (once xs))
  where
    kept : ℕ
    kept = times k (keep (λ z. not (eqb x z)) (once xs))

    go : Dec (k ≡ x) → times k (once xs) ≤ 1 → kept ≡ cond (not (eqb x k)) (times k (once xs)) 0 → one (eqb k x) + kept ≤ 1
    go (yes e) few q = omega (arith, one_eq k x e, rw (eq-eqb x k (sym e)) at q)
    go (no ne) few q = omega (arith, one_ne k x ne, rw (ne_eqb x k (λ e. ne (sym e))) at q)

-- a list without repeats
pub distinct-few : (x : ℕ) (xs : List ℕ) → Distinct xs → times x xs ≤ 1
distinct-few x [] d = omega arith
distinct-few x (y ∷ ys) d = go (ℕ_discrete x y) (dec_lt 0 (times x ys)) (distinct-few x ys d.1)
  where
    go : Dec (x ≡ y) → Dec (0 < times x ys) → times x ys ≤ 1 → times x (y ∷ ys) ≤ 1
    go (yes e) (yes l) few = absurd (d.0 (times_in_back y ys (omega (arith, ap (λ (z : ℕ). times z ys) e))))
    go (yes e) (no l) few = omega (arith, one_eq x y e)
    go (no ne) l few = omega (arith, one_ne x y ne)
