-- Whether a test passes somewhere in a list: as the kit's search finds it, and in a list made from another.
-- Rests on the list functions alone.
use Prim.Native.Nat.{ℕ, suc, ◌<◌}
use native.Mathlib.Omega.{arith}
use mathlib.Core.Path.{◌≡◌, refl, ap, ap₂}
use mathlib.Core.Bool.{Bool, ◌||◌}
use mathlib.Core.List.{List, [], ◌∷◌, map}
use lib.ListN.{length, get_or}
use Rattle.std.specs.List.{list_any}
use Rattle.lists.specs.Lists.{any}

-- the search of the kit's lists is the same
pub any-is : {A : Type 0} (f : A → Bool) (xs : List A) → list_any f xs ≡ any f xs
any-is f [] = refl
any-is f (x ∷ xs) = ap (λ (t : Bool). f x || t) (any-is f xs)

pub any-map : {A B : Type 0} (f : B → Bool) (g : A → B) (xs : List A) → any f (map g xs) ≡ any (λ x. f (g x)) xs
any-map f g [] = refl
any-map f g (x ∷ xs) = ap (λ (t : Bool). f (g x) || t) (any-map f g xs)

pub any_alike : (f g : ℕ → Bool) (xs : List ℕ) → ((i : ℕ) → i < length xs → f (get_or xs i 0) ≡ g (get_or xs i 0)) → any f xs ≡ any g xs
any_alike f g [] h = refl
any_alike f g (x ∷ xs) h = ap₂ (λ (s t : Bool). s || t) (h 0 (omega arith)) (any_alike f g xs (λ i l. h (suc i) (omega arith)))
