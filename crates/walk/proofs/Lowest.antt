-- The records' lowest positions, the largest of them and by line, and a test for each of a node's lines.
-- Rests on the definitions (Lows).
use Prim.Native.Nat.{ℕ, zero, suc, ◌+◌, ◌*◌, ◌<◌, max}
use native.Mathlib.Numerals.{add-one}
use native.Mathlib.Omega.{arith}
use mathlib.Core.Path.{◌≡◌, refl, sym, ap, ap₂, ◌∙◌, subst}
use mathlib.Core.Bool.{Bool, ◌||◌}
use mathlib.Core.List.{List, [], ◌∷◌, ◌++◌, map}
use lib.ListN.{length, get_or, set, length-set}
use lib.Dec.{ltb}
use Rattle.std.specs.List.{fold, list_any, range_with_len, reduce}
use Rattle.std.specs.Option.{option_map, unwrap_or}
use Rattle.std.specs.Prelude.{Option}
use Rattle.std.proofs.lemmas.Grind.{get_or_default_zero}
use Rattle.std.proofs.lemmas.Iterator.Adapters.{option_map_id}
use Rattle.lists.specs.Lists.{any, from, greatest}
use Rattle.lists.proofs.Upto.{table-suc}
use Rattle.paper.specs.Records.{record_at, records_in}
use Rattle.paper.specs.Walk.{M}
use Rattle.tables.specs.declared.Layout.{Layout}
use Rattle.tables.specs.Usable.{entries_of}
use Rattle.walk.specs.Lows.{Lined, Asked, lows_laid, below_lows}

pub records-next : (words : List ℕ) (i : ℕ) → records_in words (suc i) ≡ records_in words i ++ (record_at words i ∷ [])
unfolding records_in
records-next words i = table-suc (record_at words) i

-- ---- the largest of the lowest positions

fold_greatest : (x : ℕ) (xs : List ℕ) → fold max x xs ≡ max x (greatest xs)
fold_greatest x [] = omega arith
fold_greatest x (y ∷ ys) = omega (arith, fold_greatest (max x y) ys)

largest_of : (xs : List ℕ) → unwrap_or (reduce max xs) 0 ≡ greatest xs
largest_of [] = refl
largest_of (x ∷ xs) = fold_greatest x xs

lowest_positions : (words : List ℕ) (k n : ℕ) → map (λ i. get_or words (3 * i + 1) 0) (range_with_len k n) ≡ map (λ r. r.lowest) (map (record_at words) (from k n))
unfolding record_at
lowest_positions words k zero = refl
lowest_positions words k (suc n) =
    ap (λ (xs : List ℕ). get_or words (3 * k + 1) 0 ∷ xs) (ap (λ (j : ℕ). map (λ i. get_or words (3 * i + 1) 0) (range_with_len j n)) (add-one k) ∙ lowest_positions words (suc k) n)

pub largest-is : (words : List ℕ) (count : ℕ) (largest : Option ℕ) → option_map (λ x. x) largest ≡ reduce max (map (λ i. get_or words (3 * i + 1) 0) (range_with_len 0 count))
    → unwrap_or largest 0 ≡ M (records_in words count)
unfolding M records_in
largest-is words count largest e =
    ap (λ (o : Option ℕ). unwrap_or o 0) (sym (option_map_id largest) ∙ e) ∙ largest_of (map (λ i. get_or words (3 * i + 1) 0) (range_with_len 0 count))
    ∙ ap greatest (lowest_positions words 0 count)

-- ---- the lowest positions by line

pub lows-long : (a : List ℕ) (lows : ℕ) (words : List ℕ) (i : ℕ) → length (lows_laid a lows words i) ≡ length a
unfolding lows_laid
lows-long a lows words zero = refl
lows-long a lows words (suc i) =
    length-set (lows_laid a lows words i) (lows + (record_at words i).line) (record_at words i).lowest ∙ lows-long a lows words i

pub lows-none : (a : List ℕ) (lows : ℕ) (words : List ℕ) → a ≡ lows_laid a lows words 0
unfolding lows_laid
lows-none a lows words = refl

module _ (a : List ℕ) (lows : ℕ) (words : List ℕ) (i : ℕ) {area : List ℕ} {line : ℕ} (now : area ≡ lows_laid a lows words i) (read : line ≡ get_or words (3 * i) 0) where
  pub low-inside : {count : ℕ} → Lined a lows words count → i < count → lows + line < length area
  unfolding record_at
  low-inside lined h = omega (arith, lined.inside i h, ap length now, lows-long a lows words i)

  pub lows-next : set area (lows + line) (get_or words (3 * i + 1) 0) ≡ lows_laid a lows words (i + 1)
  unfolding lows_laid record_at
  lows-next =
      ap₂ (λ (m : List ℕ) (x : ℕ). set m (lows + x) (get_or words (3 * i + 1) 0)) now read ∙ ap (lows_laid a lows words) (sym (add-one i))

-- ---- a node's lines

module _ (a : List ℕ) (at : Layout) (lows v : ℕ) {lines : List ℕ} (entries : lines ≡ entries_of a at.begins at.lines v) where
  pub line-inside : Asked a at lows v → (i : ℕ) {x : ℕ} → i < length lines → x ≡ get_or lines i x → lows + x < length a
  line-inside asked i {x} h line =
      subst (λ (y : ℕ). lows + y < length a)
      (ap (λ (xs : List ℕ). get_or xs i 0) (sym entries) ∙ sym (line ∙ get_or_default_zero lines i x h))
      (asked.inside i (omega (arith, ap length entries)))

  pub below-is : {pos : ℕ} {r : Bool} → pos ≡ get_or a (at.positions + v) 0 → r ≡ list_any (λ x. ltb pos (get_or a (lows + x) 0)) lines → r ≡ below_lows a at lows v
  unfolding below_lows
  below-is {pos} position said =
      said ∙ any_is (λ x. ltb pos (get_or a (lows + x) 0)) lines
      ∙ ap₂ (λ (xs : List ℕ) (q : ℕ). any (λ x. ltb q (get_or a (lows + x) 0)) xs) entries position
    where
      any_is : (f : ℕ → Bool) (xs : List ℕ) → list_any f xs ≡ any f xs
      any_is f [] = refl
      any_is f (x ∷ xs) = ap (λ (t : Bool). f x || t) (any_is f xs)
