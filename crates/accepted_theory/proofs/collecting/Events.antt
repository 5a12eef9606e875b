-- The small map after any positions were added to any lines: each line once, first seen first, with the smallest and largest of its positions.
-- Rests on Laws and on lists' Count.
use Prim.Native.Nat.{ℕ, ◌≤◌}
use native.Mathlib.Omega.{arith}
use native.Mathlib.Decide.{ℕ_discrete}
use mathlib.Core.Path.{◌≡◌, refl, sym, ap, ap₂, ◌∙◌}
use mathlib.Core.Bool.{Bool, true, false, cond}
use mathlib.Core.List.{List, [], ◌∷◌, ◌++◌, map, map-append, append_assoc, append-nil}
use lib.ListN.{length, length-map, length-append}
use lib.Dec.{eqb}
use borrow.Author.Tests.{eqb-true, eq-eqb, ne_eqb}
use Rattle.lists.specs.Lists.{one, keep, member, times, once, least, greatest, In}
use Rattle.lists.proofs.Upto.{keep_append}
use Rattle.lists.proofs.Count.{one_eq, one_ne, eqb_sym, length-keep, count_map}
use Rattle.lists.proofs.Members.{member_yes, member_no}
use Rattle.lists.proofs.Places.{times_in}
use Rattle.accepted_theory.specs.collecting.SmallMap.{Held, widened, add}
use Rattle.accepted_theory.specs.collecting.Collected.{fresh}
use Rattle.accepted_theory.proofs.collecting.Laws.{map_in, times-once, once_snoc, least_snoc, greatest_snoc}

-- a position that is added to a line
pub record Event : Type 0 where
  pub line : ℕ
  pub place : ℕ

abbrev pub add_all : List Event → List Held → List Held
add_all [] hs = hs
add_all (e ∷ es) hs = add_all es (add e.place e.line hs)

pub add_all_append : (es fs : List Event) (hs : List Held) → add_all (es ++ fs) hs ≡ add_all fs (add_all es hs)
add_all_append [] fs hs = refl
add_all_append (e ∷ es) fs hs = add_all_append es fs (add e.place e.line hs)

-- the lines of some events, and the places on one of them
abbrev pub lines_of_all : List Event → List ℕ
lines_of_all es = map (λ e. e.line) es

abbrev pub places_on : ℕ → List Event → List ℕ
places_on l es = map (λ e. e.place) (keep (λ e. eqb l e.line) es)

-- a line with these positions
abbrev pub held_with : ℕ → List ℕ → Held
held_with l ps = record { interval = record { line = l; lowest = least ps; highest = greatest ps }; count = length ps }

abbrev pub small_map : List Event → List Held
small_map es = map (λ l. held_with l (places_on l es)) (once (lines_of_all es))

-- ---- two lines with the same numbers

abbrev made : ℕ → ℕ → ℕ → ℕ → Held
made l low high n = record { interval = record { line = l; lowest = low; highest = high }; count = n }

made-same : (l : ℕ) {low low' high high' n n' : ℕ} → low ≡ low' → high ≡ high' → n ≡ n' → made l low high n ≡ made l low' high' n'
made-same l {low} {low'} {high} {high'} {n} {n'} p q r =
    ap₂ (λ (x y : ℕ). made l x y n) p q ∙ ap (λ (z : ℕ). made l low' high' z) r

pub held_same : (l : ℕ) (ps qs : List ℕ) → least ps ≡ least qs → greatest ps ≡ greatest qs → length ps ≡ length qs → held_with l ps ≡ held_with l qs
held_same l ps qs p q r = made-same l p q r

-- ---- one event more

module _ (es : List Event) (l p : ℕ) where
  event : Event
  event = record { line = l; place = p }

  places_on_other : (k : ℕ) → (k ≡ l → ⊥) → places_on k (es ++ (event ∷ [])) ≡ places_on k es
  unfolding event
  places_on_other k ne =
      ap (map (λ e. e.place))
      (keep_append (λ e. eqb k e.line) es (event ∷ [])
      ∙ ap (λ (t : Bool). keep (λ e. eqb k e.line) es ++ cond t (event ∷ []) []) (ne_eqb k l ne)
      ∙ append-nil (keep (λ e. eqb k e.line) es))

  places_on_here : places_on l (es ++ (event ∷ [])) ≡ places_on l es ++ (p ∷ [])
  unfolding event
  places_on_here =
      ap (map (λ e. e.place)) (keep_append (λ e. eqb l e.line) es (event ∷ []))
      ∙ rw (eq-eqb l l refl) (map-append (λ e. e.place) (keep (λ e. eqb l e.line) es) (event ∷ []))

pub length_places_on : (l : ℕ) (es : List Event) → length (places_on l es) ≡ times l (lines_of_all es)
length_places_on l es =
    length-map (keep (λ e. eqb l e.line) es) (λ e. e.place) ∙ length-keep (λ e. eqb l e.line) es
    ∙ sym (count_map (eqb l) (λ e. e.line) es)

-- a line with no position yet, and with some
with_first : (l p : ℕ) (ps : List ℕ) → length ps ≡ 0 → held_with l (ps ++ (p ∷ [])) ≡ fresh p l
with_first l p [] e = made-same l refl (omega arith) refl
with_first l p (q ∷ ps) e = absurd (omega arith)

with_more : (l p : ℕ) (ps : List ℕ) → 1 ≤ length ps → held_with l (ps ++ (p ∷ [])) ≡ widened (held_with l ps) p
unfolding widened
with_more l p [] h = absurd (omega arith)
with_more l p (q ∷ ps) h =
    made-same l (least_snoc q ps p) (greatest_snoc (q ∷ ps) p) (length-append (q ∷ ps) (p ∷ []))

-- ---- adding to a map over lines

module _ (f : ℕ → List ℕ) (p l : ℕ) where
  over : List ℕ → List Held
  over ks = map (λ k. held_with k (f k)) ks

  add-last : (ks : List ℕ) → times l ks ≡ 0 → add p l (over ks) ≡ over ks ++ (fresh p l ∷ [])
  unfolding add over
  add-last [] e = refl
  add-last (k ∷ ks) e = go (eqb k l) (eqb_sym l k) (add-last ks)
    where
      go : (t : Bool) → eqb l k ≡ t → (times l ks ≡ 0 → add p l (over ks) ≡ over ks ++ (fresh p l ∷ []))
          → cond t (widened (held_with k (f k)) p ∷ over ks) (held_with k (f k) ∷ add p l (over ks)) ≡ held_with k (f k) ∷ (over ks ++ (fresh p l ∷ []))
      go true q ih = absurd (omega (arith, one_eq l k (eqb-true l k q)))
      go false q ih = ap (λ (r : List Held). held_with k (f k) ∷ r) (ih (omega arith))

  add-within : (g : ℕ → List ℕ) → ((k : ℕ) → (k ≡ l → ⊥) → g k ≡ f k) → held_with l (g l) ≡ widened (held_with l (f l)) p
      → (ks : List ℕ) → times l ks ≡ 1 → add p l (over ks) ≡ map (λ k. held_with k (g k)) ks
  unfolding add over
  add-within g other here [] e = absurd (omega arith)
  add-within g other here (k ∷ ks) e = go (ℕ_discrete k l) (add-within g other here ks)
    where
      rest : times l ks ≡ 0 → over ks ≡ map (λ j. held_with j (g j)) ks
      rest none =
          map_in (λ j. held_with j (f j)) (λ j. held_with j (g j)) ks
          (λ j i. ap (held_with j) (sym (other j (λ q. omega (arith, times_in j ks i, ap (λ (x : ℕ). times x ks) q)))))

      go : Dec (k ≡ l) → (times l ks ≡ 1 → add p l (over ks) ≡ map (λ j. held_with j (g j)) ks)
          → cond (eqb k l) (widened (held_with k (f k)) p ∷ over ks) (held_with k (f k) ∷ add p l (over ks)) ≡ held_with k (g k) ∷ map (λ j. held_with j (g j)) ks
      go (yes q) ih =
          rw (eq-eqb k l q)
          (ap₂ (λ (x : Held) (xs : List Held). x ∷ xs) (sym (rw q here)) (rest (omega (arith, one_eq l k (sym q)))))
      go (no ne) ih =
          rw (ne_eqb k l ne)
          (ap₂ (λ (x : Held) (xs : List Held). x ∷ xs) (ap (held_with k) (sym (other k ne))) (ih (omega (arith, one_ne l k (λ q. ne (sym q))))))

-- ---- the map after one event more, and after all

small_snoc : (es : List Event) (l p : ℕ) → add p l (small_map es) ≡ small_map (es ++ (record { line = l; place = p } ∷ []))
unfolding event over
small_snoc es l p = go (ℕ_discrete (times l ls) 0)
  where
    ls : List ℕ
    ls = lines_of_all es

    more : List Event
    more = es ++ (event es l p ∷ [])

    lines_more : lines_of_all more ≡ ls ++ (l ∷ [])
    lines_more = map-append (λ e. e.line) es (event es l p ∷ [])

    now : (k : ℕ) → Held
    now k = held_with k (places_on k more)

    onces : (t : Bool) → member l ls ≡ t → once (lines_of_all more) ≡ once ls ++ cond t [] (l ∷ [])
    onces t e = ap once lines_more ∙ once_snoc ls l ∙ ap (λ (s : Bool). once ls ++ cond s [] (l ∷ [])) e

    go : Dec (times l ls ≡ 0) → add p l (small_map es) ≡ map now (once (lines_of_all more))
    go (yes none) =
        add-last (λ k. places_on k es) p l (once ls) (omega (arith, times-once l ls, ap one (member_no l ls none)))
        ∙ ap₂ (λ (xs : List Held) (x : Held). xs ++ (x ∷ []))
        (map_in (λ k. held_with k (places_on k es)) now (once ls) (λ k i. ap (held_with k) (sym (places_on_other es l p k (differs k i)))))
        (sym (ap (held_with l) (places_on_here es l p) ∙ with_first l p (places_on l es) (omega (arith, length_places_on l es))))
        ∙ sym (map-append now (once ls) (l ∷ []))
        ∙ ap (map now) (sym (onces false (member_no l ls none)))
      where
        differs : (k : ℕ) → In k (once ls) → k ≡ l → ⊥
        differs k i q =
            omega (arith, times_in k (once ls) i, ap (λ (x : ℕ). times x (once ls)) q, times-once l ls, ap one (member_no l ls none))
    go (no some) =
        let there = member_yes l ls (omega arith) in
        add-within (λ k. places_on k es) p l (λ k. places_on k more) (places_on_other es l p)
        (ap (held_with l) (places_on_here es l p) ∙ with_more l p (places_on l es) (omega (arith, length_places_on l es)))
        (once ls) (omega (arith, times-once l ls, ap one there))
        ∙ ap (map now) (sym (onces true there ∙ append-nil (once ls)))

small-on : (done es : List Event) → add_all es (small_map done) ≡ small_map (done ++ es)
small-on done [] = ap small_map (sym (append-nil done))
small-on done (e ∷ es) =
    ap (add_all es) (small_snoc done e.line e.place) ∙ small-on (done ++ (e ∷ [])) es
    ∙ ap small_map (append_assoc done (e ∷ []) es)

pub all_added : (es : List Event) → add_all es [] ≡ small_map es
all_added es = small-on [] es
