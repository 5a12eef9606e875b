-- Numbers below a bound, none of them twice, are no more than the bound: so there are no more good records than lines.
-- Rests on lists.Compare.
use Prim.Native.Nat.{ℕ, zero, suc, ◌≤◌, ◌<◌}
use native.Mathlib.Omega.{arith}
use mathlib.Core.Path.{◌≡◌, refl, sym, ap}
use mathlib.Core.List.{List, [], ◌∷◌}
use lib.ListN.{length}
use Rattle.lists.specs.Lists.{times}
use Rattle.lists.specs.Bounds.{Below}
use Rattle.lists.proofs.Count.{one_ne}
use Rattle.lists.proofs.Compare.{below_more, once_more, fits}

module _ (number : ℕ → ℕ) (k : ℕ) where
  -- the first n numbers, the last one in front
  passed : ℕ → List ℕ
  passed zero = []
  passed (suc n) = number n ∷ passed n

  many : (n : ℕ) → length (passed n) ≡ n
  unfolding passed
  many zero = refl
  many (suc n) = ap suc (many n)

  below : (n : ℕ) → ((i : ℕ) → i < n → number i < k) → Below k (passed n)
  unfolding passed
  below zero known = λ j h. refl
  below (suc n) known = below_more (number n) k (passed n) (known n (omega arith)) (below n (λ i h. known i (omega arith)))

  absent : (x n : ℕ) → ((i : ℕ) → i < n → number i ≡ x → ⊥) → times x (passed n) ≡ 0
  unfolding passed
  absent x zero other = refl
  absent x (suc n) other = omega (arith, one_ne x (number n) (λ e. other n (omega arith) (sym e)), absent x n (λ i h. other i (omega arith)))

  once : (n : ℕ) → ((i j : ℕ) → i < j → j < n → number i ≡ number j → ⊥) → (j : ℕ) → times j (passed n) ≤ 1
  unfolding passed
  once zero lone j = omega arith
  once (suc n) lone j =
      once_more (number n) (passed n) (absent (number n) n (λ i h. lone i n h (omega arith))) (once n (λ i o h g. lone i o h (omega arith))) j

  pub no_more : (n : ℕ) → ((i : ℕ) → i < n → number i < k) → ((i j : ℕ) → i < j → j < n → number i ≡ number j → ⊥) → n ≤ k
  no_more n known lone = omega (arith, fits k (passed n) (below n known) (once n lone), many n)

  -- .. and fewer, if another number below the bound is none of them
  pub room-left : (n : ℕ) → ((i : ℕ) → i < n → number i < k) → ((i j : ℕ) → i < j → j < n → number i ≡ number j → ⊥) → (x : ℕ) → x < k
      → ((i : ℕ) → i < n → number i ≡ x → ⊥) → n < k
  room-left n known lone x h other =
      omega (
        arith,
        fits k (x ∷ passed n) (below_more x k (passed n) h (below n known)) (once_more x (passed n) (absent x n other) (once n lone)),
        many n,
      )
