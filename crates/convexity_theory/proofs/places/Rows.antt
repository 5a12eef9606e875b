-- A rising set of places as those of a row that pass a test: what stands in it, and the set with more places inserted.
-- Rests on accepted_theory.Among (members of what is kept).
use Prim.Native.Nat.{ℕ, zero, suc, ◌+◌, ◌≤◌, ◌<◌}
use native.Mathlib.Decide.{ℕ_discrete, dec_lt}
use native.Mathlib.Omega.{arith}
use mathlib.Core.Path.{◌≡◌, refl, sym, ap, ◌∙◌}
use mathlib.Core.Bool.{Bool, true, false, ◌||◌, cond, or_assoc, or_comm, false≢true}
use mathlib.Core.List.{List, [], ◌∷◌, ◌++◌, Memᴰ}
use lib.Dec.{eqb}
use borrow.Author.Tests.{le-leb, lt-leb, eq-eqb, ne_eqb}
use Rattle.lists.specs.Lists.{from, any, keep, member, put}
use Rattle.lists.proofs.Count.{times-before, times-after, times_among}
use Rattle.lists.proofs.Members.{keep_members, keep-there}
use Rattle.accepted_theory.proofs.recorded.Among.{there-times, times-there, keep_at, keep_passes, member_at, member_in}
use Rattle.paper.specs.OrderCheck.{insert, insert_all}

pub any_append : {A : Type 0} (f : A → Bool) (xs ys : List A) → any f (xs ++ ys) ≡ (any f xs || any f ys)
any_append f [] ys = refl
any_append f (x ∷ xs) ys = ap (λ (t : Bool). f x || t) (any_append f xs ys) ∙ sym (or_assoc (f x) (any f xs) (any f ys))

-- ---- in a row

pub from_low : {x : ℕ} (i k : ℕ) → Memᴰ x (from i k) → i ≤ x
from_low {x} i k m = go (dec_lt x i)
  where
    go : Dec (x < i) → i ≤ x
    go (yes l) = absurd (omega (arith, there-times m, times-before x i k l))
    go (no l) = omega arith

pub from-high : {x : ℕ} (i k : ℕ) → Memᴰ x (from i k) → x < i + k
from-high {x} i k m = go (dec_lt x (i + k))
  where
    go : Dec (x < i + k) → x < i + k
    go (yes l) = l
    go (no l) = absurd (omega (arith, there-times m, times-after x i k (omega arith)))

pub from_at : (x i k : ℕ) → i ≤ x → x < i + k → Memᴰ x (from i k)
from_at x i k low high = times-there x (from i k) (omega (arith, times_among x i k low high))

pub row_low : (f : ℕ → Bool) {x : ℕ} (i k : ℕ) → Memᴰ x (keep f (from i k)) → i ≤ x
row_low f i k m = from_low i k (keep-there f (from i k) m)

-- the first of a row
pub row_with : (f : ℕ → Bool) (i k : ℕ) → f i ≡ true → keep f (from i (suc k)) ≡ i ∷ keep f (from (suc i) k)
row_with f i k e = rw e

pub row-without : (f : ℕ → Bool) (i k : ℕ) → f i ≡ false → keep f (from i (suc k)) ≡ keep f (from (suc i) k)
row-without f i k e = rw e

-- ---- one more place

-- a test that also passes at j
abbrev pub also : ℕ → (ℕ → Bool) → ℕ → Bool
also j f x = eqb x j || f x

also_other : (f : ℕ → Bool) (j x : ℕ) → (x ≡ j → ⊥) → also j f x ≡ f x
also_other f j x ne = ap (λ (t : Bool). t || f x) (ne_eqb x j ne)

also-here : (f : ℕ → Bool) (j x : ℕ) → x ≡ j → also j f x ≡ true
also-here f j x e = ap (λ (t : Bool). t || f x) (eq-eqb x j e)

-- j passes as it is
also-passing : (f : ℕ → Bool) (j : ℕ) → f j ≡ true → (x : ℕ) → Dec (x ≡ j) → f x ≡ also j f x
also-passing f j p x (yes e) = ap f e ∙ p ∙ sym (also-here f j x e)
also-passing f j p x (no ne) = sym (also_other f j x ne)

put_front : (j : ℕ) (xs : List ℕ) → ((x : ℕ) → Memᴰ x xs → j ≤ x) → put (λ i. i) j xs ≡ j ∷ xs
put_front j [] h = refl
put_front j (x ∷ xs) h = rw (le-leb j x (h x (Memᴰ.head refl)))

put-row : (f : ℕ → Bool) (j : ℕ) → f j ≡ false → (i k : ℕ) → i ≤ j → j < i + k → put (λ x. x) j (keep f (from i k)) ≡ keep (also j f) (from i k)
put-row f j new i zero low high = absurd (omega arith)
put-row f j new i (suc k) low high = go (ℕ_discrete i j) (put-row f j new (suc i) k)
  where
    rest : List ℕ
    rest = keep f (from (suc i) k)

    -- j itself
    here : i ≡ j → put (λ x. x) j rest ≡ i ∷ keep (also j f) (from (suc i) k)
    here e =
        put_front j rest (λ x m. omega (arith, row_low f (suc i) k m))
        ∙ ap (λ (x : ℕ). x ∷ rest) (sym e)
        ∙ ap (λ (xs : List ℕ). i ∷ xs) (keep_members f (also j f) (from (suc i) k) (λ x m. sym (also_other f j x (λ q. omega (arith, from_low (suc i) k m)))))

    -- a place before j, in the set or not
    before : (t : Bool) → i < j → put (λ x. x) j rest ≡ keep (also j f) (from (suc i) k)
        → put (λ x. x) j (cond t (i ∷ rest) rest) ≡ cond t (i ∷ keep (also j f) (from (suc i) k)) (keep (also j f) (from (suc i) k))
    before true l ih = rw (lt-leb j i l) (ap (λ (xs : List ℕ). i ∷ xs) ih)
    before false l ih = ih

    go : Dec (i ≡ j) → (suc i ≤ j → j < suc i + k → put (λ x. x) j rest ≡ keep (also j f) (from (suc i) k))
        → put (λ x. x) j (keep f (from i (suc k))) ≡ keep (also j f) (from i (suc k))
    go (yes e) ih =
        ap (put (λ x. x) j) (row-without f i k (ap f e ∙ new)) ∙ here e ∙ sym (row_with (also j f) i k (also-here f j i e))
    go (no ne) ih =
        before (f i) (omega arith) (ih (omega arith) (omega arith))
        ∙ ap (λ (t : Bool). cond t (i ∷ keep (also j f) (from (suc i) k)) (keep (also j f) (from (suc i) k))) (sym (also_other f j i ne))

insert-row : (f : ℕ → Bool) (j i k : ℕ) → i ≤ j → j < i + k → insert j (keep f (from i k)) ≡ keep (also j f) (from i k)
unfolding insert
insert-row f j i k low high = go (f j) refl
  where
    out : (t : Bool) → f j ≡ false → member j (keep f (from i k)) ≡ t → t ≡ false
    out true p e = absurd (false≢true (sym p ∙ keep_passes f (from i k) (member_in j (keep f (from i k)) e)))
    out false p e = refl

    go : (t : Bool) → f j ≡ t → insert j (keep f (from i k)) ≡ keep (also j f) (from i k)
    go true p =
        rw (member_at (keep_at f (from_at j i k low high) p))
        (keep_members f (also j f) (from i k) (λ x m. also-passing f j p x (ℕ_discrete x j)))
    go false p =
        rw (out (member j (keep f (from i k))) p refl) (put-row f j p i k low high)

-- ---- many more

pub insert-rows : (f : ℕ → Bool) (js : List ℕ) (i k : ℕ) → ((j : ℕ) → Memᴰ j js → (i ≤ j) × (j < i + k))
    → insert_all js (keep f (from i k)) ≡ keep (λ x. member x js || f x) (from i k)
unfolding insert_all
insert-rows f [] i k h = refl
insert-rows f (j ∷ js) i k h =
    ap (insert_all js) (insert-row f j i k (h j (Memᴰ.head refl)).0 (h j (Memᴰ.head refl)).1)
    ∙ insert-rows (also j f) js i k (λ x m. h x (Memᴰ.tail m))
    ∙ keep_members (λ x. member x js || also j f x) (λ x. member x (j ∷ js) || f x) (from i k)
    (λ x m. sym (or_assoc (member x js) (eqb x j) (f x)) ∙ ap (λ (t : Bool). t || f x) (or_comm (member x js) (eqb x j)))
