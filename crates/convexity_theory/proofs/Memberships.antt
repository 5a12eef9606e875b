-- `In` for the lists that the checks are made of (joined, kept, mapped, put in a row, each once), and what a test over a list says of a member.
-- Rests on lists.Members and lists.Places, which join membership to counts.
use Prim.Native.Nat.{ℕ, ◌≤◌, ◌<◌}
use native.Mathlib.Decide.{ℕ_discrete}
use native.Mathlib.Omega.{arith}
use mathlib.Core.Path.{◌≡◌, refl, sym, ap, ◌∙◌}
use mathlib.Core.Logic.{◌⊎◌, inl, inr}
use mathlib.Core.Bool.{Bool, true, false, not, ◌&&◌, ◌||◌, cond, true≢false, and-eq-true_iff}
use mathlib.Core.List.{List, [], ◌∷◌, ◌++◌, flat_map, Memᴰ}
use lib.Dec.{eqb}
use borrow.Author.Tests.{eq-eqb, ne_eqb, eqb-true}
use Rattle.lists.specs.Lists.{upto, one, all, any, keep, count, member, times, once, In, Distinct}
use Rattle.lists.specs.Found.{front, listed}
use Rattle.lists.proofs.Count.{times-keep, times-upto, times_past}
use Rattle.lists.proofs.Upto.{count-append}
use Rattle.lists.proofs.Compare.{once_more}
use Rattle.lists.proofs.Places.{times_in, times_in_back}
use Rattle.lists.proofs.Members.{member-count, member_yes, member_below}
use Rattle.accepted_theory.specs.Every.{Every}

-- ---- the two memberships, and the test

pub in_mem : {x : ℕ} (xs : List ℕ) → In x xs → Memᴰ x xs
in_mem [] i = absurd i
in_mem (y ∷ ys) (inl e) = Memᴰ.head e
in_mem (y ∷ ys) (inr i) = Memᴰ.tail (in_mem ys i)

pub mem_in : {x : ℕ} (xs : List ℕ) → Memᴰ x xs → In x xs
mem_in {x} xs m = times_in_back x xs (member-count (eqb x) m (eq-eqb x x refl))

pub in_member : (x : ℕ) (xs : List ℕ) → In x xs → member x xs ≡ true
in_member x xs i = member_yes x xs (times_in x xs i)

pub member_in : (x : ℕ) (xs : List ℕ) → member x xs ≡ true → In x xs
member_in x [] e = absurd (true≢false (sym e))
member_in x (y ∷ ys) e = go (eqb x y) refl e (member_in x ys)
  where
    go : (t : Bool) → eqb x y ≡ t → (t || member x ys) ≡ true → (member x ys ≡ true → In x ys) → (x ≡ y) ⊎ In x ys
    go true q e later = inl (eqb-true x y q)
    go false q e later = inr (later e)

pub dec_in : (x : ℕ) (xs : List ℕ) → Dec (In x xs)
dec_in x xs = go (member x xs) refl
  where
    go : (t : Bool) → member x xs ≡ t → Dec (In x xs)
    go true e = yes (member_in x xs e)
    go false e = no (λ i. true≢false (sym (in_member x xs i) ∙ e))

pub times-out : (x : ℕ) (xs : List ℕ) → (In x xs → ⊥) → times x xs ≡ 0
times-out x xs out = go (ℕ_discrete (times x xs) 0)
  where
    go : Dec (times x xs ≡ 0) → times x xs ≡ 0
    go (yes e) = e
    go (no ne) = absurd (out (times_in_back x xs (omega arith)))

pub times-distinct : (xs : List ℕ) → Distinct xs → (x : ℕ) → times x xs ≤ 1
times-distinct [] d x = omega arith
times-distinct (y ∷ ys) d x = once_more y ys (times-out y ys d.0) (times-distinct ys d.1) x

pub in_every : (P : ℕ → Type 0) {x : ℕ} (xs : List ℕ) → Every P xs → In x xs → P x
in_every P [] p i = absurd i
in_every P (y ∷ ys) p (inl e) = rw e p.0
in_every P (y ∷ ys) p (inr i) = in_every P ys p.1 i

-- ---- lists joined, kept, put in a row, each once

pub in_left : (x : ℕ) (xs ys : List ℕ) → In x xs → In x (xs ++ ys)
in_left x xs ys i = times_in_back x (xs ++ ys) (omega (arith, times_in x xs i, count-append (eqb x) xs ys))

pub in_right : (x : ℕ) (xs ys : List ℕ) → In x ys → In x (xs ++ ys)
in_right x xs ys i = times_in_back x (xs ++ ys) (omega (arith, times_in x ys i, count-append (eqb x) xs ys))

pub in_either : (x : ℕ) (xs ys : List ℕ) → In x (xs ++ ys) → In x xs ⊎ In x ys
in_either x xs ys i = go (dec_in x xs)
  where
    go : Dec (In x xs) → In x xs ⊎ In x ys
    go (yes j) = inl j
    go (no out) = inr (times_in_back x ys (omega (arith, times_in x (xs ++ ys) i, count-append (eqb x) xs ys, times-out x xs out)))

pub in_keep : (f : ℕ → Bool) (x : ℕ) (xs : List ℕ) → f x ≡ true → In x xs → In x (keep f xs)
in_keep f x xs e i = times_in_back x (keep f xs) (rw (times-keep f x xs, e) (times_in x xs i))

pub kept : (f : ℕ → Bool) (x : ℕ) (xs : List ℕ) → In x (keep f xs) → (f x ≡ true) × In x xs
kept f x xs i = go (f x) refl (rw (times-keep f x xs) at (times_in x (keep f xs) i))
  where
    go : (t : Bool) → f x ≡ t → 1 ≤ cond t (times x xs) 0 → (f x ≡ true) × In x xs
    go true e h = (e, times_in_back x xs h)
    go false e h = absurd (omega arith)

pub in_once : (x : ℕ) (xs : List ℕ) → In x xs → In x (once xs)
in_once x [] i = i
in_once x (y ∷ ys) (inl e) = inl e
in_once x (y ∷ ys) (inr i) = go (ℕ_discrete y x) (in_once x ys i)
  where
    go : Dec (y ≡ x) → In x (once ys) → In x (once (y ∷ ys))
    go (yes e) j = inl (sym e)
    go (no ne) j = inr (in_keep (λ z. not (eqb y z)) x (once ys) (ap not (ne_eqb y x ne)) j)

pub of_once : (x : ℕ) (xs : List ℕ) → In x (once xs) → In x xs
of_once x [] i = i
of_once x (y ∷ ys) (inl e) = inl e
of_once x (y ∷ ys) (inr i) = inr (of_once x ys (kept (λ z. not (eqb y z)) x (once ys) i).1)

-- the first of a list, where there is one
pub of_front : (x : ℕ) (xs : List ℕ) → In x (listed (front xs)) → In x xs
of_front x [] i = i
of_front x (y ∷ ys) (inl e) = inl e
of_front x (y ∷ ys) (inr i) = absurd i

module _ {A : Type 0} (f : A → List ℕ) (y : ℕ) where
  -- whose part y stands in
  pub record PartWith (xs : List A) : Type 0 where
    pub which : A
    pub there : Memᴰ which xs
    pub has : In y (f which)

  pub of_flat_map : (xs : List A) → In y (flat_map f xs) → PartWith xs
  unfolding flat_map
  of_flat_map [] i = absurd i
  of_flat_map (x ∷ xs) i = go (in_either y (f x) (flat_map f xs) i) (of_flat_map xs)
    where
      go : In y (f x) ⊎ In y (flat_map f xs) → (In y (flat_map f xs) → PartWith xs) → PartWith (x ∷ xs)
      go (inl j) later = record { which = x; there = Memᴰ.head refl; has = j }
      go (inr j) later =
          let p = later j in
          record { which = p.which; there = Memᴰ.tail p.there; has = p.has }

  pub in_flat_map : {x : A} {xs : List A} → Memᴰ x xs → In y (f x) → In y (flat_map f xs)
  unfolding flat_map
  in_flat_map (Memᴰ.head {x = z} {xs = zs} e) i = in_left y (f z) (flat_map f zs) (rw e at i)
  in_flat_map (Memᴰ.tail {x = z} {xs = zs} m) i = in_right y (f z) (flat_map f zs) (in_flat_map m i)

-- ---- tests over a list

module _ {A : Type 0} (f : A → Bool) where
  -- a member for which the test says t
  pub record Some (t : Bool) (xs : List A) : Type 0 where
    pub which : A
    pub there : Memᴰ which xs
    pub says : f which ≡ t

  later : {t : Bool} {x : A} {xs : List A} → Some t xs → Some t (x ∷ xs)
  later s = record { which = s.which; there = Memᴰ.tail s.there; says = s.says }

  pub any_some : (xs : List A) → any f xs ≡ true → Some true xs
  any_some [] e = absurd (true≢false (sym e))
  any_some (x ∷ xs) e = go (f x) refl e (any_some xs)
    where
      go : (t : Bool) → f x ≡ t → (t || any f xs) ≡ true → (any f xs ≡ true → Some true xs) → Some true (x ∷ xs)
      go true q e more = record { which = x; there = Memᴰ.head refl; says = q }
      go false q e more = later (more e)

  pub some-any : {x : A} {xs : List A} → Memᴰ x xs → f x ≡ true → any f xs ≡ true
  some-any (Memᴰ.head {x = y} {xs = ys} q) e = ap (λ (t : Bool). t || any f ys) (ap f (sym q) ∙ e)
  some-any (Memᴰ.tail {x = y} {xs = ys} m) e = go (f y) (some-any m e)
    where
      go : (t : Bool) → any f ys ≡ true → (t || any f ys) ≡ true
      go true q = refl
      go false q = q

  pub all-each : {x : A} {xs : List A} → Memᴰ x xs → all f xs ≡ true → f x ≡ true
  all-each (Memᴰ.head {x = y} {xs = ys} q) e = ap f q ∙ ((and-eq-true_iff (f y) (all f ys)).0 e).0
  all-each (Memᴰ.tail {x = y} {xs = ys} m) e = all-each m ((and-eq-true_iff (f y) (all f ys)).0 e).1

  pub all-some : (xs : List A) → all f xs ≡ false → Some false xs
  all-some [] e = absurd (true≢false e)
  all-some (x ∷ xs) e = go (f x) refl e (all-some xs)
    where
      go : (t : Bool) → f x ≡ t → (t && all f xs) ≡ false → (all f xs ≡ false → Some false xs) → Some false (x ∷ xs)
      go true q e more = later (more e)
      go false q e more = record { which = x; there = Memᴰ.head refl; says = q }

  pub count-some : (xs : List A) → 1 ≤ count f xs → Some true xs
  count-some [] h = absurd (omega arith)
  count-some (x ∷ xs) h = go (f x) refl (count-some xs)
    where
      go : (t : Bool) → f x ≡ t → (1 ≤ count f xs → Some true xs) → Some true (x ∷ xs)
      go true q more = record { which = x; there = Memᴰ.head refl; says = q }
      go false q more = later (more (omega (arith, ap one q)))

-- ---- the numbers below n

pub count-upto-some : (f : ℕ → Bool) (n k : ℕ) → k < n → f k ≡ true → 1 ≤ count f (upto n)
count-upto-some f n k h e = member-count f (in_mem (upto n) (times_in_back k (upto n) (omega (arith, times-upto k n h)))) e

pub upto-below : {n k : ℕ} → Memᴰ k (upto n) → k < n
upto-below {n} m = member_below (λ k h. times_past k n h) m
