-- What each step keeps, all later steps keep.
-- Rests on nothing.
use Prim.Native.Nat.{ℕ, zero, suc, ◌≤◌}
use native.Mathlib.Decide.{ℕ_discrete}
use native.Mathlib.Omega.{arith}
use mathlib.Core.Path.{◌≡◌, ap, ◌∙◌}

module _ {A : Type 0} (after : ℕ → A) {x : A} (keeps : (n : ℕ) → after n ≡ x → after (suc n) ≡ x) where
  pub later : (k n : ℕ) → k ≤ n → after k ≡ x → after n ≡ x
  later k zero h e = ap after (lowest k h) ∙ e
    where
      lowest : (k : ℕ) → k ≤ zero → zero ≡ k
      lowest k h = omega arith
  later k (suc n) h e = go (ℕ_discrete (suc n) k) (later k n)
    where
      go : Dec (suc n ≡ k) → (k ≤ n → after k ≡ x → after n ≡ x) → after (suc n) ≡ x
      go (yes q) ih = ap after q ∙ e
      go (no ne) ih = keeps n (ih (omega arith) e)
