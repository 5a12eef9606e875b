-- The test of the order: it holds each node once exactly if each word stands at its kept place.
-- Rests on lists.Places, lists.First and groups.Bags.
use Prim.Native.Nat.{ℕ, suc, ◌+◌, ◌≤◌, ◌<◌}
use native.Mathlib.Decide.{ℕ_discrete, dec_lt}
use native.Mathlib.Omega.{arith}
use borrow.Author.Tests.{eq-eqb, ne_eqb, lt-ltb, le-ltb}
use mathlib.Core.Path.{◌≡◌, sym, ap, ◌∙◌, subst}
use mathlib.Core.Bool.{Bool, true, false, not}
use mathlib.Core.List.{List, [], ◌∷◌}
use lib.Dec.{T, eqb, ltb}
use lib.ListN.{length, get_or, take}
use lib.Seq.{get_or-take, length-take-le, take_all}
use Rattle.lists.specs.Lists.{upto, one, all, times}
use Rattle.lists.specs.Found.{at}
use Rattle.lists.proofs.Tests.{Says, says_yes_lem, says_no_lem, eq_says, every-says}
use Rattle.lists.proofs.AllAny.{all_false}
use Rattle.lists.proofs.Count.{one_eq, one_ne, times-upto, times_past}
use Rattle.lists.proofs.Compare.{fewer}
use Rattle.lists.proofs.First.{first-is}
use Rattle.lists.proofs.Places.{PlaceBelow, place-times, place-new, times-place}
use Rattle.lists.proofs.Upto.{length_from}
use Rattle.paper.specs.Map.{link_from, link_to}
use Rattle.paper.specs.Order.{place_in}
use Rattle.groups.proofs.Bags.{known-below, others, as_often}
use Rattle.acceptance.specs.Places.{EachOnce, KeptUpto, Unknown, PlacesKnown, at_place}

-- ---- the test at the kept places

module _ (order places : List ℕ) where
  pub place_differs : {i v p : ℕ} → i < length order → v ≡ get_or order i 0 → p ≡ get_or places v 0 → (p ≡ i → ⊥)
      → false ≡ all (at_place order places) (upto (length order))
  place_differs {i} h is kept ne =
      sym
      (all_false (at_place order places) (length order) i h
      (ne_eqb (get_or places (get_or order i 0) 0) i (λ e. ne (kept ∙ ap (λ (w : ℕ). get_or places w 0) is ∙ e))))

-- ---- the test of the links

module _ (b places : List ℕ) (k : ℕ) {u v : ℕ} (is-u : u ≡ link_from b k) (is-v : v ≡ link_to b k) where
  abbrev ahead : ℕ → Bool
  ahead j = ltb (get_or places (link_from b j) 0) (get_or places (link_to b j) 0)

  pub link-back : {l : ℕ} → k < l → get_or places v 0 ≤ get_or places u 0 → false ≡ all ahead (upto l)
  link-back {l} h le =
      sym
      (all_false ahead l k h
      (le-ltb (get_or places (link_from b k) 0) (get_or places (link_to b k) 0) (omega (arith, ap (λ (w : ℕ). get_or places w 0) is-u, ap (λ (w : ℕ). get_or places w 0) is-v))))

  pub link-ahead : get_or places u 0 < get_or places v 0 → ahead k ≡ true
  link-ahead lt = lt-ltb (get_or places (link_from b k) 0) (get_or places (link_to b k) 0) (omega (arith, ap (λ (w : ℕ). get_or places w 0) is-u, ap (λ (w : ℕ). get_or places w 0) is-v))

-- ---- each once

-- a list of which no number stands at two places
once_by_place : (xs : List ℕ) → ((i j : ℕ) → i < length xs → j < length xs → get_or xs i 0 ≡ get_or xs j 0 → i ≡ j) → (v : ℕ) → times v xs ≤ 1
once_by_place [] h v = omega arith
once_by_place (x ∷ xs) h v =
    go (once_by_place xs (λ i j l m e. omega (arith, h (suc i) (suc j) (omega arith) (omega arith) e)) v) (ℕ_discrete v x) (dec_lt (times v xs) 1)
  where
    twice : v ≡ x → PlaceBelow (length xs) v xs → ⊥
    twice e p = omega (arith, h 0 (suc p.place) (omega arith) (omega (arith, p.inside)) (sym e ∙ sym p.holds))

    go : times v xs ≤ 1 → Dec (v ≡ x) → Dec (times v xs < 1) → one (eqb v x) + times v xs ≤ 1
    go rest (yes e) (yes l) = omega (arith, one_eq v x e)
    go rest (yes e) (no l) =
        absurd (twice e (place-times (length xs) v xs (omega (arith, ap (times v) (take_all (length xs) xs (omega arith))))))
    go rest (no ne) d = omega (arith, one_ne v x ne)

-- a number at two places
two_places : (xs : List ℕ) (i p : ℕ) → i < p → p < length xs → get_or xs p 0 ≡ get_or xs i 0 → times (get_or xs p 0) xs ≤ 1 → ⊥
two_places xs i p l h e few =
    omega (
      arith,
      place-new xs p h few,
      times-place (take p xs) i (omega (arith, length-take-le p xs (omega arith))),
      ap (λ (v : ℕ). times v (take p xs)) (get_or-take p xs i 0 l ∙ sym e),
    )

-- a word that is no node's number leaves no room for one of the nodes
pub unknown_not_once : {order : List ℕ} → Unknown order → EachOnce order → ⊥
unknown_not_once {order} u once =
    omega (
      arith,
      fewer (λ z. not (eqb w z)) n (upto n) order (λ k h. times_past k n h) (λ k h. omega (arith, times-upto k n h, once k h)),
      others w (upto n),
      others w order,
      length_from 0 n,
      times_past w n u.high,
      times-place order u.which u.inside,
    )
  where
    n : ℕ
    n = length order

    w : ℕ
    w = get_or order u.which 0

module _ {order places : List ℕ} (k : KeptUpto order (length order) places) where
  pub places_known : length order ≤ length places → PlacesKnown order places
  places_known room = record { known = λ i h. omega (arith, k.below i h) }

  moved_not_once : (i : ℕ) → i < length order → (get_or places (get_or order i 0) 0 ≡ i → ⊥) → EachOnce order → ⊥
  moved_not_once i h ne once =
      two_places order i (get_or places (get_or order i 0) 0) (omega (arith, k.late i h)) (k.early i h) (k.holds i h)
      (omega (arith, ap (λ (v : ℕ). times v order) (k.holds i h), once (get_or order i 0) (k.below i h)))

  stands-once : ((i : ℕ) → i < length order → get_or places (get_or order i 0) 0 ≡ i) → EachOnce order
  stands-once h v l =
      sym
      (as_often (upto (length order)) order (length order) (known-below (length order) order k.below) (length_from 0 (length order)) few v)
      ∙ times-upto v (length order) l
    where
      once : (w : ℕ) → times w order ≤ 1
      once =
          once_by_place order
          (λ i j li lj e. sym (h i li) ∙ ap (λ (w : ℕ). get_or places w 0) e ∙ h j lj)

      few : (w : ℕ) → times w order ≤ times w (upto (length order))
      few w = go (dec_lt w (length order))
        where
          go : Dec (w < length order) → times w order ≤ times w (upto (length order))
          go (yes l) = omega (arith, once w, times-upto w (length order) l)
          go (no g) = omega (arith, known-below (length order) order k.below w (omega arith))

  -- the test at the kept places says that each stands once
  pub all_at_places : {r : Bool} → r ≡ all (at_place order places) (upto (length order)) → Says r (EachOnce order)
  all_at_places {r} e = go r e
    where
      at_place_lem : T (all (at_place order places) (upto (length order))) → (i : ℕ) → i < length order → get_or places (get_or order i 0) 0 ≡ i
      at_place_lem t i h = says.to t i h
        where
          says : Says (all (at_place order places) (upto (length order))) ((i : ℕ) → i < length order → get_or places (get_or order i 0) 0 ≡ i)
          says = every-says (λ i. eq_says (get_or places (get_or order i 0) 0) i) (length order)

      go : (r : Bool) → r ≡ all (at_place order places) (upto (length order)) → Says r (EachOnce order)
      go true e = says_yes_lem (stands-once (at_place_lem (subst T e tt)))
      go false e = says_no_lem (λ once. subst T (sym e) (back once))
        where
          back : EachOnce order → T (all (at_place order places) (upto (length order)))
          back once = (every-says (λ i. eq_says (get_or places (get_or order i 0) 0) i) (length order)).back (λ i h. stay i h (ℕ_discrete (get_or places (get_or order i 0) 0) i))
            where
              stay : (i : ℕ) → i < length order → Dec (get_or places (get_or order i 0) 0 ≡ i) → get_or places (get_or order i 0) 0 ≡ i
              stay i h (yes e) = e
              stay i h (no ne) = absurd (moved_not_once i h ne once)

  -- ---- the kept place of a node is its place in the order

  module _ (once : EachOnce order) where
    module _ {v : ℕ} (l : v < length order) where
      somewhere : PlaceBelow (length order) v order
      somewhere = place-times (length order) v order (omega (arith, ap (times v) (take_all (length order) order (omega arith)), once v l))

      place_inside : get_or places v 0 < length order
      place_inside =
          let p = somewhere in
          omega (arith, ap (λ (w : ℕ). get_or places w 0) p.holds, k.early p.place p.inside)

      place-holds : get_or order (get_or places v 0) 0 ≡ v
      place-holds =
          let p = somewhere in
          ap (λ (w : ℕ). get_or order (get_or places w 0) 0) (sym p.holds) ∙ k.holds p.place p.inside ∙ p.holds

      pub place_is : place_in order v ≡ at (get_or places v 0)
      unfolding place_in
      place_is =
          first-is (λ i. eqb (get_or order i 0) v) (length order) (get_or places v 0)
          (record {
            known = place_inside;
            passes = eq-eqb (get_or order (get_or places v 0) 0) v place-holds;
            fail = λ i h. ne_eqb (get_or order i 0) v
                (λ e. two_places order i (get_or places v 0) h place_inside (place-holds ∙ sym e)
                (omega (arith, ap (λ (w : ℕ). times w order) place-holds, once v l)));
          })
