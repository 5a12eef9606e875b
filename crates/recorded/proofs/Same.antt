-- Two lists compared word by word, and the rest of a line held against the numbers told and a list behind them.
-- Rests on lists' `same` and on Answers.
use Prim.Native.Nat.{ℕ, suc, ◌+◌, ◌-◌, ◌≤◌, ◌<◌}
use native.Mathlib.Numerals.{add-one}
use native.Mathlib.Omega.{arith}
use mathlib.Core.Path.{◌≡◌, refl, sym, ap, ◌∙◌}
use mathlib.Core.Bool.{Bool, true, false, ◌&&◌, and-false}
use mathlib.Core.List.{List, [], ◌∷◌, ◌++◌}
use lib.ListN.{length, get_or, take, drop, length-append, length-take, length-drop}
use lib.Seq.{drop-cons, drop-drop, length-take-le, take_all}
use lib.Dec.{eqb}
use borrow.Author.Tests.{ne_eqb, eq-eqb}
use Rattle.std.specs.Bool.{Decides}
use Rattle.std.proofs.Common.{rules}
use Rattle.std.proofs.lemmas.Slice.Eq.{compares_Decides}
use Rattle.lists.specs.Lists.{same}
use Rattle.recorded.specs.Answers.{with_list}

-- lists of other lengths are not the same
pub other_length : (xs ys : List ℕ) → (length xs ≡ length ys → ⊥) → same xs ys ≡ false
other_length [] [] h = absurd (h refl)
other_length [] (y ∷ ys) h = refl
other_length (x ∷ xs) [] h = refl
other_length (x ∷ xs) (y ∷ ys) h = ap (λ (t : Bool). eqb x y && t) (other_length xs ys (λ e. h (ap suc e))) ∙ and-false (eqb x y)

-- two lists are the same exactly if they are one
pub Decides-same : (xs ys : List ℕ) → Decides (same xs ys) (xs ≡ ys)
Decides-same = compares_Decides same (search rules)

-- ---- the rest of a line, from a place on

module _ (ws : List ℕ) (at : ℕ) where
  pub rest-short : (xs : List ℕ) → (length ws - at ≡ length xs → ⊥) → false ≡ same (drop at ws) xs
  rest-short xs h = sym (other_length (drop at ws) xs (λ e. h (sym (length-drop at ws) ∙ e)))

  pub rest-list : (x : ℕ) (xs : List ℕ) → at < length ws → (eqb (get_or ws at 0) x && same (drop (at + 1) ws) xs) ≡ same (drop at ws) (x ∷ xs)
  rest-list x xs h = sym (rw (add-one, drop-cons ws at 0 h))

  pub rest_other : (x : ℕ) (xs : List ℕ) → at < length ws → (get_or ws at 0 ≡ x → ⊥) → false ≡ same (drop at ws) (x ∷ xs)
  rest_other x xs h e = sym (rw (ne_eqb _ _ e)) ∙ rest-list x xs h

  pub rest_equal : (x : ℕ) (xs : List ℕ) {t : Bool} → at < length ws → get_or ws at 0 ≡ x → t ≡ same (drop (at + 1) ws) xs → t ≡ same (drop at ws) (x ∷ xs)
  rest_equal x xs h e f = f ∙ sym (rw (eq-eqb _ _ e)) ∙ rest-list x xs h

-- ---- the rest of a line begins with the numbers told

module _ (ws : List ℕ) (at : ℕ) (told : List ℕ) where
  -- the words that they are held against
  abbrev pub front : List ℕ
  front = take (length told) (drop at ws)

  pub too_few : length ws - at < length told → false ≡ same front told
  too_few h =
      sym (other_length front told (λ e. omega (arith, e, length-take (length told) (drop at ws), length-drop at ws)))

  module _ (h : length told ≤ length ws - at) where
    pub front_length : length front ≡ length told
    front_length = length-take-le (length told) (drop at ws) (omega (arith, length-drop at ws))

  -- .. and has no more words
  pub no_more : length ws - at ≡ length told → same front told ≡ same (drop at ws) told
  no_more h = ap (λ (r : List ℕ). same r told) (take_all (length told) (drop at ws) (omega (arith, length-drop at ws)))

and_assoc : (s t u : Bool) → ((s && t) && u) ≡ (s && (t && u))
and_assoc true t u = refl
and_assoc false t u = refl

-- two lists one after the other
same-append : (xs us vs : List ℕ) → length us ≤ length xs → same xs (us ++ vs) ≡ (same (take (length us) xs) us && same (drop (length us) xs) vs)
same-append xs [] vs h = refl
same-append [] (u ∷ us) vs h = absurd (omega arith)
same-append (x ∷ xs) (u ∷ us) vs h =
    ap (λ (t : Bool). eqb x u && t) (same-append xs us vs (omega arith)) ∙ sym (and_assoc (eqb x u) (same (take (length us) xs) us) (same (drop (length us) xs) vs))

module _ (ws : List ℕ) (at : ℕ) (told list : List ℕ) where
  pub with_none : length ws - at < length told → false ≡ same (drop at ws) (with_list told list)
  unfolding with_list
  with_none h =
      rest-short ws at (told ++ (length list ∷ list)) (λ e. omega (arith, e, length-append told (length list ∷ list)))

  module _ (h : length told ≤ length ws - at) where
    both : same (drop at ws) (with_list told list) ≡ (same (front ws at told) told && same (drop (at + length told) ws) (length list ∷ list))
    unfolding with_list
    both =
        same-append (drop at ws) told (length list ∷ list) (omega (arith, length-drop at ws))
        ∙ ap (λ (r : List ℕ). same (front ws at told) told && same r (length list ∷ list)) (drop-drop (length told) at ws)

    pub with_other : {t : Bool} → t ≡ same (front ws at told) told → t ≡ false → t ≡ same (drop at ws) (with_list told list)
    with_other {t} e f = f ∙ sym (both ∙ rw (sym e ∙ f))

    pub with_list_lem : {t u : Bool} → t ≡ same (front ws at told) told → t ≡ true → u ≡ same (drop (at + length told) ws) (length list ∷ list)
        → u ≡ same (drop at ws) (with_list told list)
    with_list_lem {t} e f g = g ∙ sym (both ∙ rw (sym e ∙ f))
