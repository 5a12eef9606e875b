-- The smallest of a list found piece by piece, and that it is the least of any list with the same members.
-- Rests on path_theory.Alike (lists with the same members).
use Prim.Native.Nat.{ℕ, min}
use native.Mathlib.Omega.{arith}
use mathlib.Core.Path.{◌≡◌, refl, sym, ap, ◌∙◌}
use mathlib.Core.Bool.{Bool, true, false, ◌||◌, cond}
use mathlib.Core.List.{List, [], ◌∷◌, ◌++◌, append_assoc}
use borrow.Author.Tests.{eq-eqb}
use Rattle.std.specs.Prelude.{Option, Some, None, unwrap_or}
use Rattle.lists.specs.Lists.{member, least}
use Rattle.lists.specs.Found.{Found, absent, at, found_of, listed}
use Rattle.lists.proofs.Upto.{keep_append}
use Rattle.path_theory.proofs.levels.Alike.{Alike, least_alike}
use Rattle.distances.specs.declared.queue.Queue.{Queue}
use Rattle.distances.specs.Met.{tells, listed_of}
use Rattle.distances.specs.Smallest.{smallest}

-- ---- piece by piece

least-append : (x : ℕ) (xs ys : List ℕ) → least (x ∷ (xs ++ ys)) ≡ least (least (x ∷ xs) ∷ ys)
least-append x [] ys = refl
least-append x (y ∷ xs) [] = ap (min x) (least-append y xs [])
least-append x (y ∷ xs) (z ∷ ys) = omega (arith, least-append y xs (z ∷ ys))

smallest-append : (xs ys : List ℕ) → smallest (listed (smallest xs) ++ ys) ≡ smallest (xs ++ ys)
smallest-append [] ys = refl
smallest-append (x ∷ xs) ys = ap at (sym (least-append x xs ys))

-- the smallest of what was found and a list, then of that and another
pub found-on : (found : Found) {next last : Found} (xs ys : List ℕ) → next ≡ smallest (listed found ++ xs) → last ≡ smallest (listed next ++ ys)
    → last ≡ smallest (listed found ++ (xs ++ ys))
found-on found xs ys e g =
    g ∙ ap (λ (f : Found). smallest (listed f ++ ys)) e ∙ smallest-append (listed found ++ xs) ys ∙ ap smallest (append_assoc (listed found) xs ys)

-- one more
pub with_one : (found : Option ℕ) (v : ℕ) {u w : ℕ} → u ≡ unwrap_or found v → w ≡ min u v → at w ≡ smallest (listed (found_of found) ++ (v ∷ []))
with_one None v e g = ap at (omega (arith, e, g))
with_one (Some u) v e g = ap at (g ∙ ap (λ (x : ℕ). min x v) e)

pub found_nothing : (found : Found) → found ≡ smallest (listed found ++ [])
found_nothing absent = refl
found_nothing (at v) = refl

-- ---- what it says of a list with the same members

pub smallest-none : (xs : List ℕ) → smallest xs ≡ absent → (v : ℕ) → member v xs ≡ false
smallest-none [] e v = refl
smallest-none (x ∷ xs) e v = absurd (let z : ◌≡◌ {A = ℕ} 0 1 = cc in omega arith)

pub smallest-some : (xs : List ℕ) {w : ℕ} → smallest xs ≡ at w → (v : ℕ) × (member v xs ≡ true)
smallest-some [] e = absurd (let z : ◌≡◌ {A = ℕ} 0 1 = cc in omega arith)
smallest-some (x ∷ xs) e = (x, ap (λ (t : Bool). t || member x xs) (eq-eqb x x refl))

module _ (xs ys : List ℕ) (same : Alike xs ys) {w : ℕ} (found : smallest xs ≡ at w) where
  pub smallest-least : w ≡ least ys
  smallest-least = go xs found ∙ least_alike xs ys same
    where
      go : (zs : List ℕ) → smallest zs ≡ at w → w ≡ least zs
      go [] e = absurd (let z : ◌≡◌ {A = ℕ} 0 1 = cc in omega arith)
      go (z ∷ zs) e = cc

-- ---- the listed ones of some nodes

module _ (a : List ℕ) (queue : Queue) (found : Found) where
  module _ (v : ℕ) {r : Bool} (said : r ≡ tells a queue v 0) where
    pub with_listed : {next : Found} → r ≡ true → next ≡ smallest (listed found ++ (v ∷ [])) → next ≡ smallest (listed found ++ listed_of a queue (v ∷ []))
    unfolding listed_of
    with_listed e g = g ∙ ap (λ (t : Bool). smallest (listed found ++ cond t (v ∷ []) [])) (sym e ∙ said)

    pub without-listed : r ≡ false → found ≡ smallest (listed found ++ listed_of a queue (v ∷ []))
    unfolding listed_of
    without-listed e = found_nothing found ∙ ap (λ (t : Bool). smallest (listed found ++ cond t (v ∷ []) [])) (sym e ∙ said)

  pub listed-none : {xs : List ℕ} → xs ≡ [] → found ≡ smallest (listed found ++ listed_of a queue xs)
  unfolding listed_of
  listed-none e = found_nothing found ∙ ap (λ (ys : List ℕ). smallest (listed found ++ listed_of a queue ys)) (sym e)

  pub listed-on : {next last : Found} {zs : List ℕ} (xs ys : List ℕ) → next ≡ smallest (listed found ++ listed_of a queue xs)
      → last ≡ smallest (listed next ++ listed_of a queue ys) → zs ≡ xs ++ ys → last ≡ smallest (listed found ++ listed_of a queue zs)
  unfolding listed_of
  listed-on xs ys e g whole =
      found-on found (listed_of a queue xs) (listed_of a queue ys) e g
      ∙ ap (λ (us : List ℕ). smallest (listed found ++ us)) (sym (keep_append (λ w. tells a queue w 0) xs ys) ∙ ap (listed_of a queue) (sym whole))
