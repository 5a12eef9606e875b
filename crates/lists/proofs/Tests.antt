-- What a computed test says: each kind of test is joined once to its proposition.
-- Rests on the kit's tests on numbers (lib.Dec).
use Prim.Native.Nat.{ℕ, zero, suc, ◌≤◌, ◌<◌, ◌+◌}
use native.Mathlib.Decide.{ℕ_discrete, dec_lt}
use native.Mathlib.Omega.{arith}
use borrow.Author.Tests.{lt-ltb, le-ltb, lt-leb, le-leb}
use mathlib.Core.Path.{◌≡◌, refl, sym, ap, ◌∙◌, subst}
use mathlib.Core.Bool.{Bool, true, false, not, ◌&&◌, ◌||◌, true≢false, false≢true}
use mathlib.Core.List.{List, [], ◌∷◌}
use lib.Dec.{T, eqb, ltb, leb, eqb→eq, eqb_refl, ltb→lt, lt→ltb, leb→le, le→leb}
use Rattle.lists.specs.Lists.{from, upto, all, rising, Rising}

-- a test and a proposition say the same
pub record Says (test : Bool) (A : Type 0) : Type 0 where
  pub to : T test → A
  pub back : A → T test

pub itself : (test : Bool) → Says test (T test)
itself test = record { to = λ t. t; back = λ t. t }

-- the same test in other words
pub reworded : {test : Bool} {A B : Type 0} → (A → B) → (B → A) → Says test A → Says test B
reworded f g s = record { to = λ t. f (s.to t); back = λ y. s.back (g y) }

infixl 35 ◌and◌
pub ◌and◌ : {a b : Bool} {A B : Type 0} → Says a A → Says b B → Says (a && b) (A × B)
◌and◌ {a} {b} {A} {B} p q = record { to = to a p; back = back a p }
  where
    to : (a : Bool) → Says a A → T (a && b) → A × B
    to true p t = (p.to tt, q.to t)
    to false p t = absurd t

    back : (a : Bool) → Says a A → A × B → T (a && b)
    back true p x = q.back x.1
    back false p x = p.back x.0

-- ---- numbers

pub eq_says : (a b : ℕ) → Says (eqb a b) (a ≡ b)
eq_says a b = record { to = eqb→eq a b; back = λ e. subst (λ (k : ℕ). T (eqb a k)) e (eqb_refl a) }

pub lt_says : (a b : ℕ) → Says (ltb a b) (a < b)
lt_says a b = record { to = ltb→lt a b; back = lt→ltb a b }

pub le_says : (a b : ℕ) → Says (leb a b) (a ≤ b)
le_says a b = record { to = leb→le a b; back = le→leb a b }

-- ---- a test for every number from one on, and for every number below a bound

module _ {f : ℕ → Bool} {P : ℕ → Type 0} (says : (i : ℕ) → Says (f i) (P i)) where
  pub from-says : (n k : ℕ) → Says (all f (from n k)) ((i : ℕ) → n ≤ i → i < n + k → P i)
  from-says n zero = record { to = λ t i low high. absurd (nothing low high); back = λ h. tt }
    where
      nothing : {i : ℕ} → n ≤ i → i < n + zero → ⊥
      nothing low high = omega arith
  from-says n (suc k) =
      reworded (λ p i low high. split low (ℕ_discrete i n) p.0 (λ on. p.1 i on (omega arith)))
      (λ h. (h n (omega arith) (omega arith), λ i low high. h i (omega arith) (omega arith)))
      (says n and from-says (suc n) k)
    where
      -- n itself, or a number after it
      split : {i : ℕ} → n ≤ i → Dec (i ≡ n) → P n → (suc n ≤ i → P i) → P i
      split low (yes e) p rest = subst P (sym e) p
      split low (no ne) p rest = rest (omega arith)

  pub every-says : (n : ℕ) → Says (all f (upto n)) ((i : ℕ) → i < n → P i)
  every-says n =
      reworded (λ h i high. h i (omega arith) (omega arith)) (λ h i low high. h i (omega arith)) (from-says 0 n)

-- ---- rising lists

pub rising-says : (xs : List ℕ) → Says (rising xs) (Rising xs)
rising-says [] = itself true
rising-says (x ∷ []) = itself true
rising-says (x ∷ (y ∷ ys)) = lt_says x y and rising-says (y ∷ ys)

-- ---- two tests in other words

pub not_ltb : (a b : ℕ) → not (ltb a b) ≡ leb b a
not_ltb a b = split (dec_lt a b)
  where
    split : Dec (a < b) → not (ltb a b) ≡ leb b a
    split (yes lt) = ap not (lt-ltb a b lt) ∙ sym (lt-leb b a lt)
    split (no ge) = ap not (le-ltb a b (omega arith)) ∙ sym (le-leb b a (omega arith))

pub or_false_both : (a b : Bool) → (a || b) ≡ false → (a ≡ false) × (b ≡ false)
or_false_both true b e = (e, cc)
or_false_both false b e = (refl, e)

-- ---- an answer and what it says

pub says_yes_lem : {A : Type 0} → A → Says true A
says_yes_lem x = record { to = λ t. x; back = λ y. tt }

pub says_no_lem : {A : Type 0} → (A → ⊥) → Says false A
says_no_lem f = record { to = λ t. absurd t; back = λ x. absurd (f x) }

-- two tests that say the same are the same
pub same-says : {s t : Bool} {A : Type 0} → Says s A → Says t A → s ≡ t
same-says {s} {t} p q = go s t p q
  where
    go : {A : Type 0} (s t : Bool) → Says s A → Says t A → s ≡ t
    go true true p q = refl
    go true false p q = absurd (q.back (p.to tt))
    go false true p q = absurd (p.back (q.to tt))
    go false false p q = refl

-- what is known where a test's answer is asked for, as `if !test` asks
pub holds : (r : Bool) → not r ≡ false → T r
holds true e = tt
holds false e = absurd (true≢false e)

pub granted : {r : Bool} {A : Type 0} → Says r A → not r ≡ false → A
granted {r} said e = said.to (holds r e)

pub denied : {r : Bool} {A : Type 0} → Says r A → not r ≡ true → A → ⊥
denied {r} said e x = fails r e (said.back x)
  where
    fails : (r : Bool) → not r ≡ true → T r → ⊥
    fails true e t = false≢true e
    fails false e t = t
