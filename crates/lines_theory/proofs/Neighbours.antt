-- What comes right after what on a line, when one more node comes last.
-- Rests on paper.Accepted.
use Prim.Native.Nat.{ℕ}
use native.Mathlib.Omega.{arith}
use mathlib.Core.Path.{◌≡◌, refl, sym, ap, ◌∙◌}
use mathlib.Core.Bool.{Bool, false, ◌&&◌, ◌||◌, and-false, or-false, or_assoc}
use mathlib.Core.List.{List, [], ◌∷◌, ◌++◌, map}
use lib.Dec.{eqb}
use borrow.Author.Tests.{ne_eqb}
use Rattle.lists.specs.Lists.{times}
use Rattle.lists.proofs.Count.{one_eq}
use Rattle.paper.specs.Accepted.{right_after}

module _ {A : Type 0} (g : A → ℕ) where
  -- what is right after what, with one more
  pub after_more : (u w : ℕ) (xs : List A) (x y : A)
      → right_after u w (map g ((xs ++ (x ∷ [])) ++ (y ∷ []))) ≡ (right_after u w (map g (xs ++ (x ∷ []))) || eqb (g x) u && eqb (g y) w)
  unfolding right_after
  after_more u w [] x y = or-false _
  after_more u w (a ∷ []) x y =
      ap (λ (t : Bool). (eqb (g a) u && eqb (g x) w) || t) (or-false (eqb (g x) u && eqb (g y) w))
      ∙ ap (λ (t : Bool). t || eqb (g x) u && eqb (g y) w) (sym (or-false (eqb (g a) u && eqb (g x) w)))
  after_more u w (a ∷ (c ∷ xs)) x y =
      ap (λ (t : Bool). (eqb (g a) u && eqb (g c) w) || t) (after_more u w (c ∷ xs) x y)
      ∙ sym (or_assoc (eqb (g a) u && eqb (g c) w) (right_after u w (map g ((c ∷ xs) ++ (x ∷ [])))) (eqb (g x) u && eqb (g y) w))

  -- .. which is not w
  pub after-apart : (u w : ℕ) (xs : List A) (y : A) → (g y ≡ w → ⊥) → right_after u w (map g (xs ++ (y ∷ []))) ≡ right_after u w (map g xs)
  unfolding right_after
  after-apart u w [] y ne = refl
  after-apart u w (a ∷ []) y ne = rw (ne_eqb (g y) w ne, and-false (eqb (g a) u))
  after-apart u w (a ∷ (c ∷ xs)) y ne = ap (λ (t : Bool). (eqb (g a) u && eqb (g c) w) || t) (after-apart u w (c ∷ xs) y ne)

-- nothing is right before a number that does not stand in the list
pub after_none : (u w : ℕ) (ns : List ℕ) → times w ns ≡ 0 → right_after u w ns ≡ false
unfolding right_after
after_none u w [] h = refl
after_none u w (x ∷ []) h = refl
after_none u w (x ∷ (y ∷ ys)) h = rw (ne_eqb y w other, and-false (eqb x u)) (after_none u w (y ∷ ys) (omega arith))
  where
    other : y ≡ w → ⊥
    other e = omega (arith, one_eq w y (sym e))
