-- What refusal 12 asks of a record, as facts: what a good record has, and each reason to be bad.
-- Rests on Any (a line used before) and Few.
use Prim.Native.Nat.{ℕ, ◌+◌, ◌*◌, ◌≤◌, ◌<◌}
use native.Mathlib.Decide.{dec_lt}
use native.Mathlib.Omega.{arith}
use borrow.Author.Tests.{le-leb, lt-leb, leb-false, ltb-false, eq-eqb, ne_eqb, not-true, not-false}
use mathlib.Core.Path.{◌≡◌, refl, sym, ap, ap₂, ◌∙◌}
use mathlib.Core.Bool.{Bool, true, false, not, ◌&&◌, ◌||◌, and-false, or-true}
use mathlib.Core.List.{List, map}
use lib.ListN.{get_or}
use lib.Dec.{eqb, leb, ltb}
use Rattle.lists.specs.Lists.{upto, any}
use Rattle.lists.proofs.AllAny.{any_true, any_false}
use Rattle.lists.proofs.Tests.{or_false_both}
use Rattle.paper.specs.Area.{K}
use Rattle.paper.specs.Records.{record_at, records_in}
use Rattle.paper.specs.Refusals.{on_line, used_before, bad_record}
use Rattle.records.proofs.Any.{any-map}
use Rattle.records.proofs.Few.{no_more}

-- ---- a line used before

module _ (words : List ℕ) (i x : ℕ) where
  used-is : used_before words i x ≡ any (λ j. eqb x (record_at words j).line) (upto i)
  unfolding used_before records_in
  used-is = any-map (eqb x) (λ r. r.line) (map (record_at words) (upto i)) ∙ any-map (λ r. eqb x r.line) (record_at words) (upto i)

  pub used : (j : ℕ) → j < i → (record_at words j).line ≡ x → used_before words i x ≡ true
  used j h e = used-is ∙ any_true (λ j. eqb x (record_at words j).line) i j h (eq-eqb x (record_at words j).line (sym e))

  pub unused : ((j : ℕ) → j < i → (record_at words j).line ≡ x → ⊥) → used_before words i x ≡ false
  unused other =
      used-is ∙ any_false (λ j. eqb x (record_at words j).line) i (λ j h. ne_eqb x (record_at words j).line (λ e. other j h (sym e)))

-- ---- one record

and_both : (s t : Bool) → (s && t) ≡ true → (s ≡ true) × (t ≡ true)
and_both true true e = (refl, refl)
and_both true false e = (refl, e)
and_both false t e = absurd (let z : ◌≡◌ {A = ℕ} 0 1 = cc in omega arith)

pub record GoodRecord (b a words : List ℕ) (i : ℕ) : Type 0 where
  pub known : (record_at words i).line < K b a
  pub new : used_before words i (record_at words i).line ≡ false
  pub low : on_line b a (record_at words i).line (record_at words i).lowest ≡ true
  pub high : on_line b a (record_at words i).line (record_at words i).highest ≡ true
  pub upright : (record_at words i).lowest ≤ (record_at words i).highest

module _ (b a words : List ℕ) (i : ℕ) where
  pub is-good : bad_record b a words i ≡ false → GoodRecord b a words i
  unfolding bad_record
  is-good e =
      let three = or_false_both _ _ e in
      let two = or_false_both _ _ three.0 in
      let one = or_false_both _ _ two.0 in
      let ends = and_both _ _ (not-false _ two.1) in
      record {
        known = leb-false (K b a) (record_at words i).line one.0;
        new = one.1;
        low = ends.0;
        high = ends.1;
        upright = ltb-false (record_at words i).highest (record_at words i).lowest three.1;
      }

-- ---- the reasons, by what is read of the record

bad_by : Bool → Bool → Bool → Bool → Bool
bad_by s t u w = s || t || u || w

second : (s t u w : Bool) → t ≡ true → true ≡ bad_by s t u w
unfolding bad_by
second s t u w e = ap (λ (x : Bool). x || u || w) (sym (or-true s)) ∙ ap (λ (x : Bool). s || x || u || w) (sym e)

third : (s t u w : Bool) → u ≡ true → true ≡ bad_by s t u w
unfolding bad_by
third s t u w e = ap (λ (x : Bool). x || w) (sym (or-true (s || t))) ∙ ap (λ (x : Bool). s || t || x || w) (sym e)

fourth : (s t u w : Bool) → s ≡ false → t ≡ false → u ≡ false → w ≡ bad_by s t u w
unfolding bad_by
fourth s t u w e f g = ap (λ (x : Bool). x || w) (sym (ap₂ (λ (x y : Bool). x || y) (ap₂ (λ (x y : Bool). x || y) e f) g))

module _ (b a words : List ℕ) (i : ℕ) {x low high : ℕ} (line : x ≡ get_or words (3 * i) 0) (lowest : low ≡ get_or words (3 * i + 1) 0) (highest : high ≡ get_or words (3 * i + 2) 0) where
  by_reasons : bad_by (leb (K b a) x) (used_before words i x) (not (on_line b a x low && on_line b a x high)) (ltb high low) ≡ bad_record b a words i
  unfolding bad_by bad_record record_at
  by_reasons =
      ap (λ (o : ℕ). leb (K b a) o || used_before words i o || not (on_line b a o low && on_line b a o high) || ltb high low) line
      ∙ ap₂
      (λ (u w : ℕ). leb (K b a) (get_or words (3 * i) 0) || used_before words i (get_or words (3 * i) 0)
      || not (on_line b a (get_or words (3 * i) 0) u && on_line b a (get_or words (3 * i) 0) w)
      || ltb w u)
      lowest
      highest

  pub unknown_line : K b a ≤ x → true ≡ bad_record b a words i
  unfolding bad_by
  unknown_line h =
      ap (λ (t : Bool). t || used_before words i x || not (on_line b a x low && on_line b a x high) || ltb high low) (sym (le-leb (K b a) x h)) ∙ by_reasons

  pub used-line : used_before words i x ≡ true → true ≡ bad_record b a words i
  used-line e = second _ _ _ _ e ∙ by_reasons

  pub low_off : {on : Bool} → on ≡ on_line b a x low → not on ≡ true → true ≡ bad_record b a words i
  low_off {on} is e =
      third _ _ _ _ (ap (λ (t : Bool). not (t && on_line b a x high)) (sym is ∙ not-true on e)) ∙ by_reasons

  pub high_off : {on : Bool} → on ≡ on_line b a x high → not on ≡ true → true ≡ bad_record b a words i
  high_off {on} is e =
      third _ _ _ _ (ap (λ (t : Bool). not (on_line b a x low && t)) (sym is ∙ not-true on e) ∙ ap not (and-false (on_line b a x low))) ∙ by_reasons

  -- all but the last reason are out
  pub order_decides : x < K b a → used_before words i x ≡ false → {on up : Bool} → on ≡ on_line b a x low → not on ≡ false
      → up ≡ on_line b a x high → not up ≡ false → ltb high low ≡ bad_record b a words i
  order_decides known new {on} {up} low-is e high_is f =
      fourth _ _ _ _ (lt-leb (K b a) x known) new
      (ap₂ (λ (s t : Bool). not (s && t)) (sym low-is ∙ not-false on e) (sym high_is ∙ not-false up f))
      ∙ by_reasons

-- ---- good records

module _ (b a words : List ℕ) {n : ℕ} (good : (i : ℕ) → i < n → bad_record b a words i ≡ false) where
  -- no two have the same line
  lone : (i j : ℕ) → i < j → j < n → (record_at words i).line ≡ (record_at words j).line → ⊥
  lone i j h g e =
      let twice : true ≡ false = sym (used words j (record_at words j).line i h e) ∙ (is-good b a words j (good j g)).new in
      let z : ◌≡◌ {A = ℕ} 0 1 = cc in
      omega arith

  pub same_record : (i j : ℕ) → i < n → j < n → (record_at words i).line ≡ (record_at words j).line → i ≡ j
  same_record i j h g e = go (dec_lt i j) (dec_lt j i)
    where
      go : Dec (i < j) → Dec (j < i) → i ≡ j
      go (yes o) d = absurd (lone i j o g e)
      go (no o) (yes u) = absurd (lone j i u h (sym e))
      go (no o) (no u) = omega (arith, o, u)

  pub few-records : n ≤ K b a
  few-records = no_more (λ i. (record_at words i).line) (K b a) n (λ i h. (is-good b a words i (good i h)).known) lone
