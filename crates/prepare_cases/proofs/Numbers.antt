-- One digit more of a number, over plain lists.
-- Rests on Number.
use Prim.Native.Nat.{ℕ, ◌+◌, ◌*◌, ◌%◌}
use native.Mathlib.Numerals.{add-one}
use mathlib.Core.Path.{◌≡◌, refl, ap₂}
use mathlib.Core.List.{List}
use lib.ListN.{length, get_or}
use Rattle.prepare_cases.specs.Number.{value_after, number_of}

pub no_digit : (word : List ℕ) → 0 ≡ value_after word 0
unfolding value_after
no_digit word = refl

pub digit_more : (word : List ℕ) (i : ℕ) {value digit : ℕ} → value ≡ value_after word i → digit ≡ get_or word i 0 % 16
    → (value * 10 + digit) % 65536 ≡ value_after word (i + 1)
unfolding value_after
digit_more word i e f = rw add-one (ap₂ (λ (v d : ℕ). (v * 10 + d) % 65536) e f)

pub all_digits : (word : List ℕ) (i : ℕ) {value : ℕ} → length word ≡ i → value ≡ value_after word i → value ≡ number_of word
unfolding number_of
all_digits word i whole e = rw whole e
