-- A part's end, by the place of the first mark, and the parts of a text one after the other.
-- Rests on Parts and on paper's `split`.
use Prim.Native.Nat.{ℕ, suc, ◌+◌, ◌-◌, ◌≤◌, ◌<◌}
use native.Mathlib.Decide.{dec_lt}
use native.Mathlib.Numerals.{add-one}
use native.Mathlib.Omega.{arith}
use borrow.Author.Tests.{eq-eqb, ne_eqb, le-leb, lt-leb}
use mathlib.Core.Path.{◌≡◌, refl, sym, ap, ap₂, ◌∙◌}
use mathlib.Core.Bool.{Bool, true, false, cond}
use mathlib.Core.Logic.{◌≢◌}
use mathlib.Core.List.{List, [], ◌∷◌}
use lib.ListN.{length, take, drop, length-drop}
use lib.Seq.{drop-drop, take_all}
use lib.Dec.{eqb}
use Rattle.std.proofs.Common.{Option, MatchOption}
use Rattle.std.specs.Option.{unwrap_or}
use Rattle.std.specs.List.{AllWithin, HoldsAt}
use Rattle.std.proofs.lemmas.Iterator.{index_from_first}
use Rattle.paper.specs.Text.{onto, split}
use Rattle.text.specs.Parts.{part_length, part_end, parts_from}

-- ---- a part's end, by the place of the first mark

pub part_at : (mark : ℕ) (xs : List ℕ) (r : Option ℕ)
    → MatchOption r (AllWithin (λ x. x ≢ mark) xs 0 (length xs)) (λ i. (i < length xs) × HoldsAt (λ x. x ≡ mark) xs i × AllWithin (λ x. x ≢ mark) xs 0 i)
    → part_length mark xs ≡ unwrap_or r (length xs)
unfolding part_length
part_at mark xs r first = index_from_first (part_length mark) (λ x. x ≡ mark) (λ x. x ≢ mark) refl hit miss xs r first
  where
    hit : (x : ℕ) (xs : List ℕ) → x ≡ mark → part_length mark (x ∷ xs) ≡ 0
    hit x xs e = ap (λ (t : Bool). cond t 0 (suc (part_length mark xs))) (eq-eqb x mark e)

    miss : (x : ℕ) (xs : List ℕ) → x ≢ mark → part_length mark (x ∷ xs) ≡ part_length mark xs + 1
    miss x xs ne = ap (λ (t : Bool). cond t 0 (suc (part_length mark xs))) (ne_eqb x mark ne) ∙ sym (add-one (part_length mark xs))

-- ---- where it can be

part_length-within : (mark : ℕ) (xs : List ℕ) → part_length mark xs ≤ length xs
unfolding part_length
part_length-within mark [] = omega arith
part_length-within mark (x ∷ xs) = go (eqb x mark) (part_length-within mark xs)
  where
    go : (t : Bool) → part_length mark xs ≤ length xs → cond t 0 (suc (part_length mark xs)) ≤ suc (length xs)
    go true h = omega arith
    go false h = omega arith

pub part-starts : (mark : ℕ) (text : List ℕ) (at : ℕ) → at ≤ part_end mark text at
unfolding part_end
part-starts mark text at = omega arith

pub part-within : (mark : ℕ) (text : List ℕ) (at : ℕ) → at ≤ length text → part_end mark text at ≤ length text
unfolding part_end
part-within mark text at h = omega (arith, part_length-within mark (drop at text), length-drop at text)

-- ---- the first part of a text, and those after it

split-on : (mark : ℕ) (xs : List ℕ) → part_length mark xs < length xs
    → split mark xs ≡ take (part_length mark xs) xs ∷ split mark (drop (suc (part_length mark xs)) xs)
unfolding part_length split onto
split-on mark [] h = absurd (omega arith)
split-on mark (x ∷ xs) h = go (eqb x mark) h (split-on mark xs)
  where
    go : (t : Bool) → cond t 0 (suc (part_length mark xs)) < suc (length xs)
        → (part_length mark xs < length xs → split mark xs ≡ take (part_length mark xs) xs ∷ split mark (drop (suc (part_length mark xs)) xs))
        → cond t ([] ∷ split mark xs) (onto x (split mark xs))
        ≡ take (cond t 0 (suc (part_length mark xs))) (x ∷ xs) ∷ split mark (drop (suc (cond t 0 (suc (part_length mark xs)))) (x ∷ xs))
    go true h rest = refl
    go false h rest = ap (onto x) (rest (omega arith))

split-last : (mark : ℕ) (xs : List ℕ) → length xs ≤ part_length mark xs → split mark xs ≡ xs ∷ []
unfolding part_length split onto
split-last mark [] h = refl
split-last mark (x ∷ xs) h = go (eqb x mark) h (split-last mark xs)
  where
    go : (t : Bool) → suc (length xs) ≤ cond t 0 (suc (part_length mark xs)) → (length xs ≤ part_length mark xs → split mark xs ≡ xs ∷ [])
        → cond t ([] ∷ split mark xs) (onto x (split mark xs)) ≡ (x ∷ xs) ∷ []
    go true h rest = absurd (omega arith)
    go false h rest = ap (onto x) (rest (omega arith))

-- .. from a place on: the next starts one byte after the end
module _ (mark : ℕ) (text : List ℕ) where
  pub parts_past : (at : ℕ) → length text < at → parts_from mark text at ≡ []
  unfolding parts_from
  parts_past at h = ap (λ (t : Bool). cond t (split mark (drop at text)) []) (lt-leb at (length text) h)

  pub parts_left : (at : ℕ) → at ≤ length text → parts_from mark text at ≡ split mark (drop at text)
  unfolding parts_from
  parts_left at h = ap (λ (t : Bool). cond t (split mark (drop at text)) []) (le-leb at (length text) h)

  pub parts_from_lem : (at : ℕ) → at ≤ length text
      → parts_from mark text at ≡ take (part_end mark text at - at) (drop at text) ∷ parts_from mark text (part_end mark text at + 1)
  unfolding part_end
  parts_from_lem at h = parts_left at h ∙ go (dec_lt k (length (drop at text)))
    where
      k : ℕ
      k = part_length mark (drop at text)

      long : length (drop at text) ≡ length text - at
      long = length-drop at text

      taken : k ≡ at + k - at
      taken = omega arith

      next : at + suc k ≡ at + k + 1
      next = omega arith

      dropped : drop (suc k) (drop at text) ≡ drop (at + k + 1) text
      dropped = drop-drop (suc k) at text ∙ ap (λ (i : ℕ). drop i text) next

      go : Dec (k < length (drop at text))
          → split mark (drop at text) ≡ take (at + k - at) (drop at text) ∷ parts_from mark text (at + k + 1)
      go (yes l) =
          split-on mark (drop at text) l
          ∙ ap₂ (λ (i : ℕ) (xs : List ℕ). take i (drop at text) ∷ split mark xs) taken dropped
          ∙ ap (λ (ps : List (List ℕ)). take (at + k - at) (drop at text) ∷ ps) (sym (parts_left (at + k + 1) (omega (arith, long))))
      go (no l) =
          split-last mark (drop at text) (omega arith)
          ∙ ap₂ (λ (p : List ℕ) (ps : List (List ℕ)). p ∷ ps)
          (sym (take_all (at + k - at) (drop at text) (omega arith))) (sym (parts_past (at + k + 1) (omega (arith, long))))
