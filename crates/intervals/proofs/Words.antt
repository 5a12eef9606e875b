-- Records that stand in a buffer's first words are those words, three each.
-- Rests on paper's Records.
use Prim.Native.Nat.{ℕ, suc, ◌+◌, ◌*◌, ◌≤◌, ◌<◌}
use native.Mathlib.Omega.{arith}
use mathlib.Core.Path.{◌≡◌, refl, sym, ap, ap₂, ◌∙◌}
use mathlib.Core.List.{List, [], ◌∷◌, flat_map}
use lib.ListN.{length, get_or, take}
use Rattle.paper.specs.Intervals.{Interval}
use Rattle.paper.specs.Records.{record_at, words_of_records}
use Rattle.intervals.specs.Holds.{interval_of}

-- the records behind the first
record_at-behind : (x y z : ℕ) (words : List ℕ) (i : ℕ) → record_at (x ∷ (y ∷ (z ∷ words))) (suc i) ≡ record_at words i
unfolding record_at
record_at-behind x y z words i =
    ap (λ (j : ℕ). interval_of (get_or longer j 0) (get_or longer (j + 1) 0) (get_or longer (j + 2) 0)) three
    ∙ ap₂ (λ (j k : ℕ). interval_of (get_or words (3 * i) 0) (get_or longer j 0) (get_or longer k 0)) one two
  where
    longer : List ℕ
    longer = x ∷ (y ∷ (z ∷ words))

    three : 3 * suc i ≡ suc (suc (suc (3 * i)))
    three = omega arith

    one : suc (suc (suc (3 * i))) + 1 ≡ suc (suc (suc (3 * i + 1)))
    one = omega arith

    two : suc (suc (suc (3 * i))) + 2 ≡ suc (suc (suc (3 * i + 2)))
    two = omega arith

pub words_are : (rs : List Interval) (words : List ℕ) (d : Interval) → 3 * length rs ≤ length words
    → ((i : ℕ) → i < length rs → record_at words i ≡ get_or rs i d) → take (length (words_of_records rs)) words ≡ words_of_records rs
unfolding words_of_records flat_map record_at
words_are [] words d fits are = refl
words_are (r ∷ rs) [] d fits are = absurd (omega arith)
words_are (r ∷ rs) (x ∷ []) d fits are = absurd (omega arith)
words_are (r ∷ rs) (x ∷ (y ∷ [])) d fits are = absurd (omega arith)
words_are (r ∷ rs) (x ∷ (y ∷ (z ∷ words))) d fits are =
    ap₂ (λ (s : Interval) (ws : List ℕ). s.line ∷ (s.lowest ∷ (s.highest ∷ ws))) (first x y z words (are 0 (omega arith)))
    (words_are rs words d (omega arith) (λ i h. sym (record_at-behind x y z words i) ∙ are (suc i) (omega arith)))
  where
    first : (x y z : ℕ) (words : List ℕ) → record_at (x ∷ (y ∷ (z ∷ words))) 0 ≡ r → interval_of x y z ≡ r
    first x y z words e = e
