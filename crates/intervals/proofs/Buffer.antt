-- A record stored in a buffer stands in its place, and the others stand as they stood.
-- Rests on lists.Sections.
use Prim.Native.Nat.{ℕ, suc, ◌+◌, ◌*◌, ◌≤◌, ◌<◌, min, max}
use native.Mathlib.Decide.{dec_lt}
use native.Mathlib.Numerals.{add-one}
use native.Mathlib.Omega.{arith}
use mathlib.Core.Path.{◌≡◌, ap, ap₂, ◌∙◌}
use mathlib.Core.Logic.{inl, inr}
use mathlib.Core.List.{List, [], ◌∷◌}
use lib.ListN.{length, get_or, set}
use Rattle.lists.proofs.Sections.{Apart, get_or-sets_in, get_or-sets-out}
use Rattle.paper.specs.Intervals.{Interval}
use Rattle.paper.specs.Records.{record_at}
use Rattle.intervals.specs.Holds.{interval_of, put_record, widened_to}

interval-same : {l l' low low' high high' : ℕ} → l ≡ l' → low ≡ low' → high ≡ high' → interval_of l low high ≡ interval_of l' low' high'
interval-same {l} {l'} {low} {low'} {high} {high'} p q r =
    ap₂ (λ (x y : ℕ). interval_of x y high) p q ∙ ap (λ (z : ℕ). interval_of l' low' z) r

-- its three words, stored one after the other
pub put_is : (words : List ℕ) (i l low high : ℕ) → set (set (set words (3 * i) l) (3 * i + 1) low) (3 * i + 2) high ≡ put_record words i (interval_of l low high)
put_is words i l low high =
    ap₂ (λ (j k : ℕ). set (set (set words (3 * i) l) j low) k high) (add-one (3 * i)) two
  where
    two : 3 * i + 2 ≡ suc (suc (3 * i))
    two = omega arith

pub widened_is : (words : List ℕ) (i p : ℕ) {low high : ℕ} {ws : List ℕ} → low ≡ min p (get_or words (3 * i + 1) 0) → high ≡ max p (get_or words (3 * i + 2) 0)
    → ws ≡ put_record words i (interval_of (get_or words (3 * i) 0) low high) → ws ≡ put_record words i (widened_to p (record_at words i))
unfolding record_at
widened_is words i p least most e = e ∙ ap₂ (λ (x y : ℕ). put_record words i (interval_of (get_or words (3 * i) 0) x y)) least most

module _ (words : List ℕ) (i : ℕ) (r : Interval) where
  pub record_put : 3 * i + 3 ≤ length words → record_at (put_record words i r) i ≡ r
  unfolding record_at
  record_put fits = interval-same (ap (λ (j : ℕ). get_or (put_record words i r) j 0) start ∙ word 0 (omega arith)) (word 1 (omega arith)) (word 2 (omega arith))
    where
      start : 3 * i ≡ 3 * i + 0
      start = omega arith

      word : (j : ℕ) → j < 3 → get_or (put_record words i r) (3 * i + j) 0 ≡ get_or (r.line ∷ (r.lowest ∷ (r.highest ∷ []))) j 0
      word j h = get_or-sets_in words (3 * i) (r.line ∷ (r.lowest ∷ (r.highest ∷ []))) j 0 h fits

  pub record_other : (j : ℕ) → (j ≡ i → ⊥) → record_at (put_record words i r) j ≡ record_at words j
  unfolding record_at
  record_other j ne =
      interval-same (word (3 * j) (omega arith) (omega arith)) (word (3 * j + 1) (omega arith) (omega arith))
      (word (3 * j + 2) (omega arith) (omega arith))
    where
      off : (at : ℕ) → 3 * j ≤ at → at < 3 * j + 3 → Dec (j < i) → Apart at (3 * i) 3
      off at low high (yes l) = inl (omega arith)
      off at low high (no l) = inr (past (omega arith))
        where
          past : i < j → 3 * i + 3 ≤ at
          past h = omega arith

      word : (at : ℕ) → 3 * j ≤ at → at < 3 * j + 3 → get_or (put_record words i r) at 0 ≡ get_or words at 0
      word at low high =
          get_or-sets-out words (3 * i) (r.line ∷ (r.lowest ∷ (r.highest ∷ []))) at 0 (off at low high (dec_lt j i))
