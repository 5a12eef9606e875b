-- Tests over a list that was kept or mapped, and numbers from a start on.
-- Rests on lists' Upto.
use Prim.Native.Nat.{ℕ, zero, suc, ◌+◌}
use native.Mathlib.Omega.{arith}
use mathlib.Core.Path.{◌≡◌, refl, ap, ◌∙◌}
use mathlib.Core.Bool.{Bool, true, false, ◌&&◌, ◌||◌, not, cond}
use mathlib.Core.List.{List, [], ◌∷◌, map}
use Rattle.lists.specs.Lists.{from, upto, any, keep}
use Rattle.lists.proofs.Tests.{or_false_both}
use Rattle.lists.proofs.Upto.{map-from-suc, table_same}

module _ {A : Type 0} where
  pub any-keep : (f g : A → Bool) (xs : List A) → any f (keep g xs) ≡ any (λ x. g x && f x) xs
  any-keep f g [] = refl
  any-keep f g (x ∷ xs) = go (g x) (any-keep f g xs)
    where
      go : (t : Bool) → any f (keep g xs) ≡ any (λ y. g y && f y) xs → any f (cond t (x ∷ keep g xs) (keep g xs)) ≡ ((t && f x) || any (λ y. g y && f y) xs)
      go true e = ap (λ (s : Bool). f x || s) e
      go false e = e

  -- none passes, so all that do not are all
  pub keep-rest : (f : A → Bool) (xs : List A) → any f xs ≡ false → keep (λ x. not (f x)) xs ≡ xs
  keep-rest f [] e = refl
  keep-rest f (x ∷ xs) e = let both = or_false_both (f x) (any f xs) e in rw both.0 (ap (λ (ys : List A). x ∷ ys) (keep-rest f xs both.1))

pub any-map : {A B : Type 0} (f : B → Bool) (g : A → B) (xs : List A) → any f (map g xs) ≡ any (λ x. f (g x)) xs
any-map f g [] = refl
any-map f g (x ∷ xs) = ap (λ (t : Bool). f (g x) || t) (any-map f g xs)

pub map-from : (f : ℕ → ℕ) (n k : ℕ) → map f (from n k) ≡ map (λ x. f (n + x)) (upto k)
map-from f zero k = table_same f (λ x. f (0 + x)) k (λ x h. ap f (plain x))
  where
    plain : (x : ℕ) → x ≡ 0 + x
    plain x = omega arith
map-from f (suc n) k =
    map-from-suc f (λ x. f (suc x)) (λ x. refl) n k ∙ map-from (λ x. f (suc x)) n k
    ∙ table_same (λ x. f (suc (n + x))) (λ x. f (suc n + x)) k (λ x h. ap f (further x))
  where
    further : (x : ℕ) → suc (n + x) ≡ suc n + x
    further x = omega arith
