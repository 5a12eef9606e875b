-- Each answer of the test of a start list and of a row of entries, as a value of the definition.
-- Rests on lists.AllAny.
use Prim.Native.Nat.{ℕ, suc, ◌+◌, ◌≤◌, ◌<◌}
use native.Mathlib.Omega.{arith}
use borrow.Author.Tests.{le-ltb, eq-eqb, ne_eqb}
use mathlib.Core.Path.{◌≡◌, refl, sym, ap, ap₂, ◌∙◌}
use mathlib.Core.Bool.{Bool, true, false, ◌&&◌, and-false}
use mathlib.Core.List.{List, [], ◌∷◌, map}
use lib.Dec.{ltb, eqb}
use lib.ListN.{length, get_or}
use lib.Seq.{ext_get_or}
use Rattle.std.specs.List.{list_all}
use Rattle.lists.specs.Lists.{all, upto}
use Rattle.lists.proofs.Sections.{part, length_part, get_d_part}
use Rattle.lists.proofs.Upto.{length-table, get_or-table}
use Rattle.lists.proofs.AllAny.{all_true, all_false}
use Rattle.paper.specs.Accepted.{starts_well}

module _ (start : ℕ → ℕ) (n end : ℕ) where
  abbrev rise : ℕ → Bool
  rise i = ltb (start i) (start (suc i))

  begins-late : (start 0 ≡ 0 → ⊥) → false ≡ starts_well start n end
  unfolding starts_well
  begins-late ne = sym (ap (λ (t : Bool). t && all rise (upto n) && eqb (start n) end) (ne_eqb (start 0) 0 ne))

  module _ (begins : start 0 ≡ 0) where
    falls_back : (i : ℕ) → i < n → start (suc i) ≤ start i → false ≡ starts_well start n end
    unfolding starts_well
    falls_back i h le =
        sym
        (ap (λ (t : Bool). eqb (start 0) 0 && t && eqb (start n) end) (all_false rise n i h (le-ltb (start i) (start (suc i)) le))
        ∙ ap (λ (t : Bool). t && eqb (start n) end) (and-false (eqb (start 0) 0)))

    well_if : ((i : ℕ) → i < n → rise i ≡ true) → eqb (start n) end ≡ starts_well start n end
    unfolding starts_well
    well_if h =
        sym
        (ap₂ (λ (s t : Bool). s && t && eqb (start n) end) (eq-eqb (start 0) 0 begins) (all_true rise n h))

-- ---- a row of entries, lent as a list of its own

list_all-map : (f : ℕ → Bool) (g : ℕ → ℕ) (xs : List ℕ) → list_all f (map g xs) ≡ all (λ j. f (g j)) xs
list_all-map f g [] = refl
list_all-map f g (x ∷ xs) = ap (λ (t : Bool). f (g x) && t) (list_all-map f g xs)

part_table : (a : List ℕ) (at n : ℕ) → at + n ≤ length a → part a at n ≡ map (λ j. get_or a (at + j) 0) (upto n)
part_table a at n fits =
    ext_get_or 0 (part a at n) (map (λ j. get_or a (at + j) 0) (upto n)) (long ∙ sym (length-table (λ j. get_or a (at + j) 0) n))
    (λ i h. let lt : i < n = omega (arith, long) in get_d_part a at n i 0 lt ∙ sym (get_or-table (λ j. get_or a (at + j) 0) n i 0 lt))
  where
    long : length (part a at n) ≡ n
    long = length_part a at n fits

pub entries-lent : (a : List ℕ) (at n bound : ℕ) {k : ℕ} {r : Bool} → k ≡ n → at + n ≤ length a → r ≡ list_all (λ x. ltb x bound) (part a at k)
    → r ≡ all (λ j. ltb (get_or a (at + j) 0) bound) (upto n)
entries-lent a at n bound same fits e =
    e
    ∙ ap (λ (m : ℕ). list_all (λ x. ltb x bound) (part a at m)) same
    ∙ ap (list_all (λ x. ltb x bound)) (part_table a at n fits)
    ∙ list_all-map (λ x. ltb x bound) (λ j. get_or a (at + j) 0) (upto n)

-- ---- a start list in the area

module _ (a : List ℕ) (at count end : ℕ) where
  abbrev start_at : ℕ → ℕ
  start_at i = get_or a (at + i) 0

  first_at : start_at 0 ≡ get_or a at 0
  first_at = ap (λ (i : ℕ). get_or a i 0) (plain at)
    where
      plain : (n : ℕ) → n + 0 ≡ n
      plain n = omega arith

  next_at : (i : ℕ) → get_or a (at + i + 1) 0 ≡ start_at (suc i)
  next_at i = ap (λ (j : ℕ). get_or a j 0) (over at i)
    where
      over : (m i : ℕ) → m + i + 1 ≡ m + suc i
      over m i = omega arith

  pub starts-late : (get_or a at 0 ≡ 0 → ⊥) → false ≡ starts_well start_at count end
  starts-late ne = begins-late start_at count end (λ e. ne (sym first_at ∙ e))

  pub starts_fall : get_or a at 0 ≡ 0 → {i : ℕ} → i < count → get_or a (at + i + 1) 0 ≤ get_or a (at + i) 0 → false ≡ starts_well start_at count end
  starts_fall e {i} h le = falls_back start_at count end (first_at ∙ e) i h (omega (arith, next_at i))

  pub starts-end : get_or a at 0 ≡ 0 → {i : ℕ} → i ≤ count → count ≤ i → ((j : ℕ) → j < i → ltb (start_at j) (start_at (suc j)) ≡ true)
      → {x : ℕ} → x ≡ get_or a (at + count) 0 → eqb x end ≡ starts_well start_at count end
  starts-end e low high h {x} is =
      ap (λ (y : ℕ). eqb y end) is ∙ well_if start_at count end (first_at ∙ e) (λ j l. h j (omega arith))
