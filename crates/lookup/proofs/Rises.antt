-- A rising list by its places: a later place has the larger number, and no number is smaller than its place.
-- Rests on the definition of Rising.
use Rattle.std.proofs.Common.{◌≡◌, ℕ, zero, suc, ◌<◌, ◌≤◌, List, [], ◌∷◌, length, get_or, ap, arith}
use native.Mathlib.Decide.{ℕ_discrete}
use Rattle.lists.specs.Lists.{Rising}

pub rising_later : (xs : List ℕ) → Rising xs → (i j : ℕ) → i < j → j < length xs → get_or xs i 0 < get_or xs j 0
rising_later [] r i j h k = absurd (omega arith)
rising_later (x ∷ []) r i j h k = absurd (omega arith)
rising_later (x ∷ (y ∷ ys)) r i zero h k = absurd (omega arith)
rising_later (x ∷ (y ∷ ys)) r zero (suc zero) h k = r.0
rising_later (x ∷ (y ∷ ys)) r zero (suc (suc j)) h k = omega (arith, r.0, rising_later (y ∷ ys) r.1 zero (suc j) (omega arith) (omega arith))
rising_later (x ∷ (y ∷ ys)) r (suc i) (suc j) h k = rising_later (y ∷ ys) r.1 i j (omega arith) (omega arith)

pub rising_mono : (xs : List ℕ) → Rising xs → (i j : ℕ) → i ≤ j → j < length xs → get_or xs i 0 ≤ get_or xs j 0
rising_mono xs r i j h k = go (ℕ_discrete i j)
  where
    go : Dec (i ≡ j) → get_or xs i 0 ≤ get_or xs j 0
    go (yes e) = omega (arith, ap (λ (n : ℕ). get_or xs n 0) e)
    go (no ne) = omega (arith, rising_later xs r i j (omega arith) k)

pub rising-place : (xs : List ℕ) → Rising xs → (i : ℕ) → i < length xs → i ≤ get_or xs i 0
rising-place xs r zero h = omega arith
rising-place xs r (suc i) h = omega (arith, rising-place xs r i (omega arith), rising_later xs r i (suc i) (omega arith) h)

pub rising-rest : (x : ℕ) (xs : List ℕ) → Rising (x ∷ xs) → Rising xs
rising-rest x [] r = tt
rising-rest x (y ∷ ys) r = r.1
