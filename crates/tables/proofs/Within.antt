-- Writing to one section: nothing written, twice written, a word, several, a wider section, and the whole section filled.
-- Rests on lists.Sections.
use Prim.Native.Nat.{ℕ, ◌+◌, ◌-◌, ◌≤◌, ◌<◌}
use native.Mathlib.Decide.{dec_lt}
use native.Mathlib.Omega.{arith}
use mathlib.Core.Path.{◌≡◌, refl, sym, ap, ◌∙◌}
use mathlib.Core.Logic.{inl, inr}
use mathlib.Core.List.{List}
use lib.ListN.{length, get_or, set, replicate, length-replicate, length-set}
use lib.Seq.{sets, length-sets, ext_get_or, get_or-set_other}
use Rattle.lists.proofs.Sections.{Apart, get_or-sets_in, get_or-sets-out}
use Rattle.tables.specs.Within.{Within}

module _ {at n : ℕ} where
  pub within_none : {a : List ℕ} → Within at n a a
  within_none = record { long = refl; same = λ i h. refl }

  pub within_both : {a m o : List ℕ} → Within at n a m → Within at n m o → Within at n a o
  within_both first then = record { long = then.long ∙ first.long; same = λ i h. then.same i h ∙ first.same i h }

  pub within-set : {a m : List ℕ} → Within at n a m → (i v : ℕ) → at ≤ i → i < at + n → Within at n a (set m i v)
  within-set {a} {m} kept i v low high =
      record { long = length-set m i v ∙ kept.long; same = λ j h. get_or-set_other m i j v 0 (off j h) ∙ kept.same j h }
    where
      off : (j : ℕ) → Apart j at n → j ≡ i → ⊥
      off j (inl h) e = omega arith
      off j (inr h) e = omega arith

  pub within-sets : {a m : List ℕ} → Within at n a m → (o : ℕ) (vs : List ℕ) → at ≤ o → o + length vs ≤ at + n → Within at n a (sets m o vs)
  within-sets {a} {m} kept o vs low high =
      record { long = length-sets m o vs ∙ kept.long; same = λ j h. get_or-sets-out m o vs j 0 (off j h) ∙ kept.same j h }
    where
      off : (j : ℕ) → Apart j at n → Apart j o (length vs)
      off j (inl h) = inl (omega arith)
      off j (inr h) = inr (omega arith)

  pub within_wider : {a m : List ℕ} → Within at n a m → (o k : ℕ) → o ≤ at → at + n ≤ o + k → Within o k a m
  within_wider kept o k low high = record { long = kept.long; same = λ j h. kept.same j (off j h) }
    where
      off : (j : ℕ) → Apart j o k → Apart j at n
      off j (inl h) = inl (omega arith)
      off j (inr h) = inr (omega arith)

  -- what was written is gone when the whole section is filled
  pub within-filled : {a m : List ℕ} → Within at n a m → at + n ≤ length a → (v : ℕ) → sets m at (replicate n v) ≡ sets a at (replicate n v)
  within-filled {a} {m} kept fits v =
      ext_get_or 0 (sets m at filled) (sets a at filled) (length-sets m at filled ∙ kept.long ∙ sym (length-sets a at filled))
      (λ j h. each j (dec_lt j at) (dec_lt j (at + n)))
    where
      filled : List ℕ
      filled = replicate n v

      many : length filled ≡ n
      many = length-replicate n v

      out : (j : ℕ) → Apart j at n → get_or (sets m at filled) j 0 ≡ get_or (sets a at filled) j 0
      out j h = get_or-sets-out m at filled j 0 (near h) ∙ kept.same j h ∙ sym (get_or-sets-out a at filled j 0 (near h))
        where
          near : Apart j at n → Apart j at (length filled)
          near (inl g) = inl g
          near (inr g) = inr (omega (arith, many))

      each : (j : ℕ) → Dec (j < at) → Dec (j < at + n) → get_or (sets m at filled) j 0 ≡ get_or (sets a at filled) j 0
      each j (yes g) d = out j (inl g)
      each j (no g) (no k) = out j (inr (omega (arith, g, k)))
      each j (no g) (yes k) = word (j - at) (omega (arith, g)) (omega (arith, g))
        where
          word : (i : ℕ) → at + i ≡ j → i < n → get_or (sets m at filled) j 0 ≡ get_or (sets a at filled) j 0
          word i e h =
              ap (λ (x : ℕ). get_or (sets m at filled) x 0) (sym e)
              ∙ get_or-sets_in m at filled i 0 (omega (arith, many)) (omega (arith, many, kept.long))
              ∙ sym (get_or-sets_in a at filled i 0 (omega (arith, many)) (omega (arith, many)))
              ∙ ap (λ (x : ℕ). get_or (sets a at filled) x 0) e
