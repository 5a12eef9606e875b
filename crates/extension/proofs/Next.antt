-- The position that comes next along a line: by the node that was found after a position, and above that position.
-- Rests on lookup's Line and on paper's Records.
use Prim.Native.Nat.{ℕ, suc, ◌≤◌, ◌<◌}
use native.Mathlib.Omega.{arith}
use borrow.Author.Tests.{ltb-true, ne_eqb}
use mathlib.Core.Path.{◌≡◌, refl, sym, ap, ◌∙◌}
use mathlib.Core.Bool.{Bool, true, false, cond, true≢false}
use mathlib.Core.List.{List, [], ◌∷◌, map}
use lib.ListN.{length, get_or}
use lib.Dec.{eqb, ltb}
use Rattle.lists.specs.Lists.{keep}
use Rattle.lists.specs.Found.{Found, absent, at, is_absent, number, is_at, front, listed}
use Rattle.paper.specs.Records.{next_position}
use Rattle.lookup.specs.Line.{Line, positions_on}

-- what comes after a position is above it
pub not_next : (line : List ℕ) (p q : ℕ) → q ≤ p → is_at q (next_position line p) ≡ false
unfolding next_position
not_next [] p q h = refl
not_next (x ∷ xs) p q h = go (ltb p x) (ltb-true p x) (not_next xs p q h)
  where
    go : (t : Bool) → (t ≡ true → p < x) → is_at q (front (keep (ltb p) xs)) ≡ false → is_at q (front (cond t (x ∷ keep (ltb p) xs) (keep (ltb p) xs))) ≡ false
    go true above rest = ne_eqb x q (λ e. omega (arith, above refl))
    go false above rest = rest

module _ (g : ℕ → ℕ) where
  kept-values : (p : ℕ) (xs : List ℕ) → keep (ltb p) (map g xs) ≡ map g (keep (λ v. ltb p (g v)) xs)
  kept-values p [] = refl
  kept-values p (x ∷ xs) = go (ltb p (g x)) (kept-values p xs)
    where
      go : (t : Bool) → keep (ltb p) (map g xs) ≡ map g (keep (λ v. ltb p (g v)) xs)
          → cond t (g x ∷ keep (ltb p) (map g xs)) (keep (ltb p) (map g xs)) ≡ map g (cond t (x ∷ keep (λ v. ltb p (g v)) xs) (keep (λ v. ltb p (g v)) xs))
      go true rest = ap (λ (ys : List ℕ). g x ∷ ys) rest
      go false rest = rest

  front_value : (ys : List ℕ) → front (map g ys) ≡ front (map g (listed (front ys)))
  front_value [] = refl
  front_value (y ∷ ys) = refl

-- the first that passes is one of the list's
first-known : (f : ℕ → Bool) (k : ℕ) (xs : List ℕ) → ((i : ℕ) → i < length xs → get_or xs i 0 < k) → (u : ℕ) → at u ≡ front (keep f xs) → u < k
first-known f k [] known u e = absurd (true≢false (ap is_absent (sym e)))
first-known f k (x ∷ xs) known u e = go (f x) e (first-known f k xs (λ i h. known (suc i) (omega arith)) u)
  where
    go : (t : Bool) → at u ≡ front (cond t (x ∷ keep f xs) (keep f xs)) → (at u ≡ front (keep f xs) → u < k) → u < k
    go true same rest = omega (arith, ap number same, known 0 (omega arith))
    go false same rest = rest same

module _ (nodes positions : List ℕ) (q : ℕ) where
  after : {found : Found} → found ≡ front (keep (λ v. ltb q (get_or positions v 0)) nodes)
      → next_position (positions_on nodes positions) q ≡ front (map (λ v. get_or positions v 0) (listed found))
  unfolding next_position positions_on
  after said =
      ap front (kept-values (λ v. get_or positions v 0) q nodes)
      ∙ front_value (λ v. get_or positions v 0) (keep (λ v. ltb q (get_or positions v 0)) nodes)
      ∙ ap (λ (f : Found). front (map (λ v. get_or positions v 0) (listed f))) (sym said)

  pub line-end : absent ≡ front (keep (λ v. ltb q (get_or positions v 0)) nodes) → (next : ℕ)
      → false ≡ is_at next (next_position (positions_on nodes positions) q)
  line-end said next = sym (ap (is_at next) (after said))

  module _ {u : ℕ} (said : at u ≡ front (keep (λ v. ltb q (get_or positions v 0)) nodes)) where
    pub node-there : Line nodes positions → u < length positions
    node-there line = first-known (λ v. ltb q (get_or positions v 0)) (length positions) nodes line.known u said

    pub node-next : {w : ℕ} → w ≡ get_or positions u 0 → (next : ℕ) → eqb w next ≡ is_at next (next_position (positions_on nodes positions) q)
    node-next is next = ap (λ (w : ℕ). eqb w next) is ∙ sym (ap (is_at next) (after said))
