-- A node stands below a record's lowest on one of its lines exactly if it stands below the lowest position that is stored for one of them.
-- Rests on the definitions (Lows, paper's Walk): no two records have the same line.
use Prim.Native.Nat.{ℕ, zero, suc, ◌<◌}
use native.Mathlib.Omega.{arith}
use mathlib.Core.Path.{◌≡◌, refl, sym, ap, ap₂, ◌∙◌}
use mathlib.Core.Bool.{Bool, true, false, ◌&&◌, ◌||◌, cond, or_assoc, or-false}
use mathlib.Core.List.{List, [], ◌∷◌, ◌++◌, map, map-append}
use lib.Dec.{eqb, ltb}
use borrow.Author.Tests.{eqb-true, le-ltb}
use Rattle.lists.specs.Lists.{any, member}
use Rattle.lists.proofs.Count.{eqb_sym}
use Rattle.lists.proofs.Tests.{or_false_both}
use Rattle.paper.specs.Intervals.{Interval}
use Rattle.paper.specs.Records.{record_at, records_in}
use Rattle.paper.specs.Refusals.{used_before}
use Rattle.walk_theory.proofs.Join.{member_snoc}
use Rattle.walk.specs.Lows.{low_on}
use Rattle.walk.proofs.Lowest.{records-next}

any_more : {A : Type 0} (f : A → Bool) (xs : List A) (x : A) → any f (xs ++ (x ∷ [])) ≡ (any f xs || f x)
any_more f [] x = or-false (f x)
any_more f (y ∷ ys) x = ap (λ (t : Bool). f y || t) (any_more f ys x) ∙ sym (or_assoc (f y) (any f ys) (f x))

-- nothing stands below 0
none_below : (pos : ℕ) (xs : List ℕ) → any (λ x. ltb pos 0) xs ≡ false
none_below pos [] = refl
none_below pos (x ∷ xs) = ap₂ ◌||◌ (le-ltb pos 0 (omega arith)) (none_below pos xs)

-- one line gets another lowest position, where it had none
line_more : (pos ln lo : ℕ) (h : ℕ → ℕ) → h ln ≡ 0 → (xs : List ℕ)
    → any (λ x. ltb pos (cond (eqb ln x) lo (h x))) xs ≡ (any (λ x. ltb pos (h x)) xs || (member ln xs && ltb pos lo))
line_more pos ln lo h free [] = refl
line_more pos ln lo h free (x ∷ xs) = go (eqb ln x) refl (line_more pos ln lo h free xs)
  where
    here : (s t u : Bool) → (s || (t || (u && s))) ≡ (false || t || (true && s))
    here true true u = refl
    here true false u = refl
    here false true u = refl
    here false false true = refl
    here false false false = refl

    go : (t : Bool) → eqb ln x ≡ t → any (λ y. ltb pos (cond (eqb ln y) lo (h y))) xs ≡ (any (λ y. ltb pos (h y)) xs || (member ln xs && ltb pos lo))
        → (ltb pos (cond t lo (h x)) || any (λ y. ltb pos (cond (eqb ln y) lo (h y))) xs)
        ≡ (ltb pos (h x) || any (λ y. ltb pos (h y)) xs || ((t || member ln xs) && ltb pos lo))
    go true e ih =
        ap (λ (t : Bool). ltb pos lo || t) ih ∙ here (ltb pos lo) (any (λ y. ltb pos (h y)) xs) (member ln xs)
        ∙ ap (λ (t : Bool). t || any (λ y. ltb pos (h y)) xs || (true && ltb pos lo)) (sym nought)
      where
        nought : ltb pos (h x) ≡ false
        nought = le-ltb pos (h x) (omega (arith, ap h (eqb-true ln x e)))
    go false e ih =
        ap (λ (t : Bool). ltb pos (h x) || t) ih
        ∙ sym (or_assoc (ltb pos (h x)) (any (λ y. ltb pos (h y)) xs) (member ln xs && ltb pos lo))

-- a line that no record has used
unused : (words : List ℕ) (i x : ℕ) → used_before words i x ≡ false → low_on words i x ≡ 0
unfolding low_on used_before
unused words zero x e = refl
unused words (suc i) x e =
    let apart =
    or_false_both (member x (map (λ r. r.line) (records_in words i))) (eqb x (record_at words i).line)
    (sym (member_snoc x (map (λ r. r.line) (records_in words i)) (record_at words i).line)
    ∙ ap (member x) (sym (map-append (λ r. r.line) (records_in words i) (record_at words i ∷ [])))
    ∙ ap (λ (rs : List Interval). member x (map (λ r. r.line) rs)) (sym (records-next words i))
    ∙ e)
    in rw (eqb_sym (record_at words i).line x ∙ apart.1) (unused words i x apart.0)

pub lows_say : (words : List ℕ) (pos : ℕ) (xs : List ℕ) (count : ℕ) → ((i : ℕ) → i < count → used_before words i (record_at words i).line ≡ false)
    → any (λ x. ltb pos (low_on words count x)) xs ≡ any (λ r. member r.line xs && ltb pos r.lowest) (records_in words count)
unfolding low_on records_in
lows_say words pos xs zero once = none_below pos xs
lows_say words pos xs (suc i) once =
    line_more pos (record_at words i).line (record_at words i).lowest (low_on words i) (unused words i (record_at words i).line (once i (omega arith))) xs
    ∙ ap (λ (t : Bool). t || (member (record_at words i).line xs && ltb pos (record_at words i).lowest))
    (lows_say words pos xs i (λ j h. once j (omega arith)))
    ∙ sym (any_more (λ r. member r.line xs && ltb pos r.lowest) (records_in words i) (record_at words i))
    ∙ ap (any (λ r. member r.line xs && ltb pos r.lowest)) (sym (records-next words i))
