-- Laws of lists whose every element has a property: which lists have it, and that functions which agree where it holds agree on the list.
-- Rests on lists.
use Prim.Native.Nat.{ℕ, zero, suc, ◌+◌, ◌≤◌, ◌<◌}
use native.Mathlib.Omega.{arith}
use mathlib.Core.Path.{◌≡◌, refl, ap, ap₂, ◌∙◌}
use mathlib.Core.Bool.{Bool, true, false, not, ◌&&◌, ◌||◌, cond}
use mathlib.Core.List.{List, [], ◌∷◌, ◌++◌, map, flat_map}
use lib.ListN.{length, get_or}
use lib.Dec.{eqb, leb}
use Rattle.lists.specs.Lists.{from, upto, all, any, keep, once, put, sort_by}
use Rattle.lists.specs.Bounds.{Below}
use Rattle.lists.proofs.Count.{one_ne}
use Rattle.lists.proofs.Places.{place-known}
use Rattle.accepted_theory.specs.Every.{Every}

-- ---- lists that have it

module _ {A : Type 0} (P : A → Type 0) where
  pub every-place : (d : A) (xs : List A) → ((i : ℕ) → i < length xs → P (get_or xs i d)) → Every P xs
  every-place d [] h = tt
  every-place d (x ∷ xs) h = (h 0 (omega arith), every-place d xs (λ i l. h (suc i) (omega arith)))

  pub every_append : (xs ys : List A) → Every P xs → Every P ys → Every P (xs ++ ys)
  every_append [] ys p q = q
  every_append (x ∷ xs) ys p q = (p.0, every_append xs ys p.1 q)

  pub every-keep : (f : A → Bool) (xs : List A) → Every P xs → Every P (keep f xs)
  every-keep f [] p = tt
  every-keep f (x ∷ xs) p = go (f x) (every-keep f xs p.1)
    where
      go : (t : Bool) → Every P (keep f xs) → Every P (cond t (x ∷ keep f xs) (keep f xs))
      go true q = (p.0, q)
      go false q = q

module _ (P : ℕ → Type 0) where
  pub every-once : (xs : List ℕ) → Every P xs → Every P (once xs)
  every-once [] p = tt
  every-once (x ∷ xs) p = (p.0, every-keep P (λ y. not (eqb x y)) (once xs) (every-once xs p.1))

  every-put : (key : ℕ → ℕ) (x : ℕ) (ys : List ℕ) → P x → Every P ys → Every P (put key x ys)
  every-put key x [] p q = (p, tt)
  every-put key x (y ∷ ys) p q = go (leb (key x) (key y)) (every-put key x ys p q.1)
    where
      go : (t : Bool) → Every P (put key x ys) → Every P (cond t (x ∷ (y ∷ ys)) (y ∷ put key x ys))
      go true r = (p, q)
      go false r = (q.0, r)

  every_sorted : (key : ℕ → ℕ) (xs : List ℕ) → Every P xs → Every P (sort_by key xs)
  every_sorted key [] p = tt
  every_sorted key (x ∷ xs) p = every-put key x (sort_by key xs) p.0 (every_sorted key xs p.1)

module _ {A B : Type 0} (P : A → Type 0) (Q : B → Type 0) where
  pub every_map : (f : A → B) → ((x : A) → P x → Q (f x)) → (xs : List A) → Every P xs → Every Q (map f xs)
  every_map f h [] p = tt
  every_map f h (x ∷ xs) p = (h x p.0, every_map f h xs p.1)

  pub every-flat_map : (f : A → List B) → ((x : A) → P x → Every Q (f x)) → (xs : List A) → Every P xs → Every Q (flat_map f xs)
  unfolding flat_map
  every-flat_map f h [] p = tt
  every-flat_map f h (x ∷ xs) p = every_append Q (f x) (flat_map f xs) (h x p.0) (every-flat_map f h xs p.1)

-- numbers below a bound
pub every-below : (n : ℕ) (xs : List ℕ) → Below n xs → Every (λ x. x < n) xs
every-below n xs below = every-place (λ x. x < n) 0 xs (λ i l. place-known n xs i below l)

pub below-every : (n : ℕ) (xs : List ℕ) → Every (λ x. x < n) xs → Below n xs
below-every n [] p k h = refl
below-every n (x ∷ xs) p k h =
    let ne : k ≡ x → ⊥ = λ e. omega (arith, p.0) in
    omega (arith, one_ne k x ne, below-every n xs p.1 k h)

pub every_upto : (n : ℕ) → Every (λ i. i < n) (upto n)
every_upto n = go 0 n (omega arith)
  where
    go : (m k : ℕ) → m + k ≤ n → Every (λ i. i < n) (from m k)
    go m zero h = tt
    go m (suc k) h = (omega arith, go (suc m) k (omega arith))

-- ---- functions that agree where it holds

module _ {A : Type 0} (P : A → Type 0) where
  pub map-every : {B : Type 0} (f g : A → B) → ((x : A) → P x → f x ≡ g x) → (xs : List A) → Every P xs → map f xs ≡ map g xs
  map-every f g h [] p = refl
  map-every {B} f g h (x ∷ xs) p = ap₂ (λ (y : B) (ys : List B). y ∷ ys) (h x p.0) (map-every f g h xs p.1)

  pub flat_map-every : {B : Type 0} (f g : A → List B) → ((x : A) → P x → f x ≡ g x) → (xs : List A) → Every P xs → flat_map f xs ≡ flat_map g xs
  unfolding flat_map
  flat_map-every f g h [] p = refl
  flat_map-every {B} f g h (x ∷ xs) p = ap₂ (λ (ys zs : List B). ys ++ zs) (h x p.0) (flat_map-every f g h xs p.1)

  module _ (f g : A → Bool) (h : (x : A) → P x → f x ≡ g x) where
    pub keep-every : (xs : List A) → Every P xs → keep f xs ≡ keep g xs
    keep-every [] p = refl
    keep-every (x ∷ xs) p = ap₂ (λ (t : Bool) (ys : List A). cond t (x ∷ ys) ys) (h x p.0) (keep-every xs p.1)

    pub all-every : (xs : List A) → Every P xs → all f xs ≡ all g xs
    all-every [] p = refl
    all-every (x ∷ xs) p = ap₂ ◌&&◌ (h x p.0) (all-every xs p.1)

    pub any-every : (xs : List A) → Every P xs → any f xs ≡ any g xs
    any-every [] p = refl
    any-every (x ∷ xs) p = ap₂ ◌||◌ (h x p.0) (any-every xs p.1)

-- keys that agree sort alike
module _ (P : ℕ → Type 0) (f g : ℕ → ℕ) (h : (x : ℕ) → P x → f x ≡ g x) where
  put-every : (x : ℕ) → P x → (ys : List ℕ) → Every P ys → put f x ys ≡ put g x ys
  put-every x p [] q = refl
  put-every x p (y ∷ ys) q =
      ap₂ (λ (t : Bool) (zs : List ℕ). cond t (x ∷ (y ∷ ys)) (y ∷ zs)) (ap₂ leb (h x p) (h y q.0)) (put-every x p ys q.1)

  pub sort_by-every : (xs : List ℕ) → Every P xs → sort_by f xs ≡ sort_by g xs
  sort_by-every [] p = refl
  sort_by-every (x ∷ xs) p =
      put-every x p.0 (sort_by f xs) (every_sorted P f xs p.1) ∙ ap (put g x) (sort_by-every xs p.1)
