-- A number digit by digit, its three tests, and the number at a place of a line.
-- Rests on Numbers and on paper's `is_number`.
use Prim.Native.Nat.{ℕ, suc, ◌+◌, ◌*◌, ◌-◌, ◌≤◌, ◌<◌}
use native.Mathlib.Numerals.{add-one}
use native.Mathlib.Omega.{arith}
use borrow.Author.Tests.{eq-eqb, ne_eqb, le-leb, lt-leb}
use mathlib.Core.Path.{◌≡◌, refl, sym, ap, ap₂, ◌∙◌}
use mathlib.Core.Bool.{Bool, true, false, ◌&&◌, ◌||◌, not, and-true, and-false}
use mathlib.Core.List.{List, [], ◌∷◌}
use lib.ListN.{length, get_or, take, drop, drop_of_length-le}
use lib.Seq.{drop-cons}
use lib.Dec.{leb}
use Rattle.lists.specs.Lists.{all}
use Rattle.lists.specs.Found.{Found, absent, at, placed, front, is_at}
use Rattle.paper.specs.Text.{space, is_digit, value_onto, is_number, read_number}
use Rattle.text.specs.Parts.{part_end}
use Rattle.text.specs.Numbers.{read_on, with_next, number_at}

-- ---- digits read on from a value

pub read_over : (text : List ℕ) (i : ℕ) {value : ℕ} → length text ≤ i → value ≤ 65535 → at value ≡ read_on value (drop i text)
unfolding read_on value_onto
read_over text i {value} over h =
    sym (ap (read_on value) (drop_of_length-le text over) ∙ ap (λ (t : Bool). placed t value) (le-leb value 65535 h))

-- a value that is too large stays so
value_grows : (value : ℕ) (xs : List ℕ) → value ≤ value_onto value xs
unfolding value_onto
value_grows value [] = omega arith
value_grows value (x ∷ xs) = omega (arith, value_grows (10 * value + (x - 48)) xs)

pub too_large : (value : ℕ) (xs : List ℕ) → 65535 < value → absent ≡ read_on value xs
unfolding read_on
too_large value xs h =
    sym (ap (λ (t : Bool). placed (all is_digit xs && t) (value_onto value xs)) (lt-leb (value_onto value xs) 65535 (omega (arith, value_grows value xs)))
    ∙ ap (λ (t : Bool). placed t (value_onto value xs)) (and-false (all is_digit xs)))

no_digit : (value x : ℕ) (xs : List ℕ) → is_digit x ≡ false → absent ≡ read_on value (x ∷ xs)
unfolding read_on
no_digit value x xs e =
    sym (ap (λ (t : Bool). placed (t && all is_digit xs && leb (value_onto value (x ∷ xs)) 65535) (value_onto value (x ∷ xs))) e)

a_digit : (value x : ℕ) (xs : List ℕ) → is_digit x ≡ true → read_on value (x ∷ xs) ≡ read_on (10 * value + (x - 48)) xs
unfolding read_on value_onto
a_digit value x xs e =
    ap (λ (t : Bool). placed (t && all is_digit xs && leb (value_onto value (x ∷ xs)) 65535) (value_onto value (x ∷ xs))) e

-- the same at a place of a text
module _ (text : List ℕ) (i value : ℕ) (within : i < length text) where
  next_byte : read_on value (drop i text) ≡ read_on value (get_or text i 0 ∷ drop (suc i) text)
  next_byte = ap (read_on value) (drop-cons text i 0 within)

  pub digit_none : is_digit (get_or text i 0) ≡ false → absent ≡ read_on value (drop i text)
  digit_none e = no_digit value (get_or text i 0) (drop (suc i) text) e ∙ sym next_byte

  pub digit_more : {digit : ℕ} → is_digit (get_or text i 0) ≡ true → digit ≡ get_or text i 0 - 48
      → read_on value (drop i text) ≡ read_on (10 * value + digit) (drop (i + 1) text)
  digit_more e f =
      next_byte
      ∙ a_digit value (get_or text i 0) (drop (suc i) text) e
      ∙ ap₂ (λ (d k : ℕ). read_on (10 * value + d) (drop k text)) (sym f) (sym (add-one i))

-- ---- a whole text

-- the number that a text is, by its tests on how many digits there are, and on the first
tested : (text : List ℕ) (some single : Bool) → leb 1 (length text) ≡ some → (leb (length text) 1 || not (is_at 48 (front text))) ≡ single
    → read_number text ≡ placed (some && all is_digit text && single && leb (value_onto 0 text) 65535) (value_onto 0 text)
unfolding read_number is_number
tested text some single e f =
    ap₂ (λ (s t : Bool). placed (s && all is_digit text && t && leb (value_onto 0 text) 65535) (value_onto 0 text)) e f

passes : (text : List ℕ) → 0 < length text → (leb (length text) 1 || not (is_at 48 (front text))) ≡ true → read_on 0 text ≡ read_number text
unfolding read_on
passes text h e =
    sym (tested text true true (le-leb 1 (length text) h) e
    ∙ ap (λ (t : Bool). placed (t && leb (value_onto 0 text) 65535) (value_onto 0 text)) (and-true (all is_digit text)))

pub no_number : (text : List ℕ) → length text ≡ 0 → absent ≡ read_number text
no_number text e = sym (tested text false (leb (length text) 1 || not (is_at 48 (front text))) (lt-leb 1 (length text) (omega arith)) refl)

pub one_digit : (text : List ℕ) → length text ≡ 1 → read_on 0 text ≡ read_number text
one_digit text e =
    passes text (omega arith) (ap (λ (t : Bool). t || not (is_at 48 (front text))) (le-leb (length text) 1 (omega arith)))

pub needless_zero : (text : List ℕ) → 1 < length text → get_or text 0 0 ≡ 48 → absent ≡ read_number text
needless_zero [] h e = absurd (omega arith)
needless_zero (x ∷ xs) h e =
    sym (tested (x ∷ xs) true false (le-leb 1 (suc (length xs)) (omega arith))
    (ap₂ (λ (s t : Bool). s || not t) (lt-leb (suc (length xs)) 1 h) (eq-eqb x 48 e))
    ∙ ap (λ (t : Bool). placed (t && leb (value_onto 0 (x ∷ xs)) 65535) (value_onto 0 (x ∷ xs))) (and-false (all is_digit (x ∷ xs))))

pub more_digits : (text : List ℕ) → 1 < length text → (get_or text 0 0 ≡ 48 → ⊥) → read_on 0 text ≡ read_number text
more_digits [] h e = absurd (omega arith)
more_digits (x ∷ xs) h e =
    passes (x ∷ xs) (omega arith) (ap₂ (λ (s t : Bool). s || not t) (lt-leb (suc (length xs)) 1 h) (ne_eqb x 48 e))

-- ---- the number at a place

pub number_at_lem : (line : List ℕ) (start : ℕ) {end : ℕ} {found : Found} → end ≡ part_end space line start
    → found ≡ read_number (take (end - start) (drop start line)) → with_next found (end + 1) ≡ number_at line start
unfolding number_at
number_at_lem line start {end} e f =
    ap (λ (r : Found). with_next r (end + 1)) f
    ∙ ap (λ (k : ℕ). with_next (read_number (take (k - start) (drop start line))) (k + 1)) e
