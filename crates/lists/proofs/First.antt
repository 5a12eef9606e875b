-- What `first` finds: a number that passes, none before it, and one wherever there is one.
-- Rests on nothing but its definition.
use Prim.Native.Nat.{ℕ, zero, suc, ◌+◌, ◌≤◌, ◌<◌}
use native.Mathlib.Decide.{ℕ_discrete, dec_lt}
use native.Mathlib.Numerals.{add-one}
use native.Mathlib.Omega.{arith}
use mathlib.Core.Path.{◌≡◌, refl, sym, ap, ap₂, ◌∙◌, subst}
use Rattle.std.specs.Prelude.{Option, Some, None}
use mathlib.Core.Bool.{Bool, true, false, true≢false}
use Rattle.lists.specs.Found.{Found, absent, at, or_else, placed, first, found_of}

-- what a search returns tells its cases apart
pub found_of_injective : (r s : Option ℕ) → found_of r ≡ found_of s → r ≡ s
found_of_injective None None e = refl
found_of_injective None (Some j) e = cc
found_of_injective (Some i) None e = cc
found_of_injective (Some i) (Some j) e = cc

-- the first that passes
pub record FirstOf (f : ℕ → Bool) (n i : ℕ) : Type 0 where
  pub known : i < n
  pub passes : f i ≡ true
  pub fail : (k : ℕ) → k < i → f k ≡ false

-- what an answer of `first` says
abbrev pub Searched : (ℕ → Bool) → ℕ → Found → Type 0
Searched f n absent = (k : ℕ) → k < n → f k ≡ false
Searched f n (at i) = FirstOf f n i

pub searched : (f : ℕ → Bool) (n : ℕ) → Searched f n (first f n)
searched f zero = λ k h. absurd (omega arith)
searched f (suc n) = go (first f n) (searched f n) (f n) refl
  where
    go : (r : Found) → Searched f n r → (t : Bool) → f n ≡ t → Searched f (suc n) (or_else r (placed t n))
    go absent h true e = record { known = omega arith; passes = e; fail = h }
    go absent h false e = λ k l. split k l (ℕ_discrete k n)
      where
        split : (k : ℕ) → k < suc n → Dec (k ≡ n) → f k ≡ false
        split k l (yes q) = ap f q ∙ e
        split k l (no ne) = h k (omega arith)
    go (at i) r t e = record { known = omega (arith, r.known); passes = r.passes; fail = r.fail }

pub first_absent : (f : ℕ → Bool) (n : ℕ) → first f n ≡ absent → (k : ℕ) → k < n → f k ≡ false
first_absent f n e = subst (Searched f n) e (searched f n)

pub first_at : (f : ℕ → Bool) (n i : ℕ) → first f n ≡ at i → FirstOf f n i
first_at f n i e = subst (Searched f n) e (searched f n)

-- where one passes there is a first, and it stands no later
pub record FoundBy (f : ℕ → Bool) (n k : ℕ) : Type 0 where
  pub place : ℕ
  pub found : first f n ≡ at place
  pub early : place ≤ k

pub first_found : (f : ℕ → Bool) (n k : ℕ) → k < n → f k ≡ true → FoundBy f n k
first_found f n k h e = go (first f n) refl
  where
    early : (i : ℕ) → FirstOf f n i → Dec (k < i) → i ≤ k
    early i r (yes l) = absurd (true≢false (sym e ∙ r.fail k l))
    early i r (no l) = omega arith

    go : (r : Found) → first f n ≡ r → FoundBy f n k
    go absent q = absurd (true≢false (sym e ∙ first_absent f n q k h))
    go (at i) q = record { place = i; found = q; early = early i (first_at f n i q) (dec_lt k i) }

-- the first is known by what it says
pub first-is : (f : ℕ → Bool) (n i : ℕ) → FirstOf f n i → first f n ≡ at i
first-is f n i r = go (first_found f n i r.known r.passes)
  where
    same : (p : FoundBy f n i) → Dec (p.place < i) → p.place ≡ i
    same p (yes l) = absurd (true≢false (sym (first_at f n p.place p.found).passes ∙ r.fail p.place l))
    same p (no l) = omega (arith, p.early)

    go : FoundBy f n i → first f n ≡ at i
    go p = p.found ∙ ap at (same p (dec_lt p.place i))

pub first-none : (f : ℕ → Bool) (n : ℕ) → ((k : ℕ) → k < n → f k ≡ false) → first f n ≡ absent
first-none f n h = go (first f n) refl
  where
    go : (r : Found) → first f n ≡ r → first f n ≡ absent
    go absent q = q
    go (at i) q =
        let r = first_at f n i q in
        absurd (true≢false (sym r.passes ∙ h i r.known))

-- two tests that agree below n find the same
pub first-same : (f g : ℕ → Bool) (n : ℕ) → ((k : ℕ) → k < n → f k ≡ g k) → first f n ≡ first g n
first-same f g zero h = refl
first-same f g (suc n) h =
    ap₂ (λ (x : Found) (t : Bool). or_else x (placed t n)) (first-same f g n (λ k l. h k (omega arith))) (h n (omega arith))

-- one number more, and still none
pub first_next : (f : ℕ → Bool) (n : ℕ) → first f n ≡ absent → f n ≡ false → first f (n + 1) ≡ absent
first_next f n e h =
    ap (first f) (add-one n) ∙ ap (λ (o : Found). or_else o (placed (f n) n)) e ∙ ap (λ (t : Bool). placed t n) h
