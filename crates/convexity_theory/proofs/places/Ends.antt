-- Where the loop starts and ends, by the places of the list's nodes one at a time; and it needs no test for at most one place.
-- Rests on Marks, Convex and accepted_theory.Chosen.
use Prim.Native.Nat.{ℕ, zero, suc, ◌≤◌, ◌<◌}
use native.Mathlib.Decide.{dec_lt}
use native.Mathlib.Omega.{arith}
use mathlib.Core.Path.{◌≡◌, refl, sym, ap, ◌∙◌}
use mathlib.Core.Logic.{◌↔◌, ◌≢◌}
use mathlib.Core.Bool.{Bool, true, false, cond}
use mathlib.Core.List.Memᴰ
use mathlib.Core.List.{List, [], ◌∷◌, ◌++◌, map, Memᴰ}
use lib.ListN.{length, set}
use lib.Dec.{leb}
use borrow.Author.Tests.{leb-true}
use Rattle.lists.specs.Lists.{one, member, least, greatest}
use Rattle.lists.specs.Bounds.{Below}
use Rattle.lists.proofs.Upto.{set-table}
use Rattle.lists.proofs.Members.{member_below}
use Rattle.accepted_theory.proofs.recorded.Among.{member_at, member_in}
use Rattle.accepted_theory.proofs.recorded.Chosen.{least-below, least_in, least-is, greatest-above, greatest_in, greatest-is}
use Rattle.paper.specs.Map.{N}
use Rattle.paper.specs.Area.{W}
use Rattle.paper.specs.Accepted.{Accepted}
use Rattle.paper.specs.Intervals.{Yes}
use Rattle.paper.specs.OrderCheck.{places_of}
use Rattle.paper.specs.Plain.{Convex}
use Rattle.order_theory.specs.Sound.{Sound}
use Rattle.convexity_theory.specs.places.Passed.{Passed, going, fed_back, pass_place, passed_below, reply_of, passing}
use Rattle.convexity_theory.specs.places.Places.{node_at, place_of}
use Rattle.convexity_theory.specs.places.Neighbour.{mark_words}
use Rattle.convexity_theory.proofs.places.Later.{later}
use Rattle.convexity_theory.proofs.places.Places.{place-below, node_of_place, place_of_node}
use Rattle.convexity_theory.proofs.places.Listed.{place-known, place-listed, listed-place, member-place, ranged}
use Rattle.convexity_theory.proofs.places.Passing.{pass_other_lem}
use Rattle.convexity_theory.proofs.places.Marks.{Stands, stands}
use Rattle.convexity_theory.proofs.places.Convex.{few_convex}
use Rattle.convexity_theory.proofs.places.ByNeighbour.{member-new, member_old}

-- ---- where nothing is marked

module _ (b a places : List ℕ) where
  -- no mark before the first listed place
  pub none_before : (i : ℕ) → ((j : ℕ) → Memᴰ j places → i ≤ j) → passed_below b a places i ≡ going []
  unfolding passed_below
  none_before zero h = refl
  none_before (suc i) h =
      ap (pass_place b a places i) (none_before i (λ j m. omega (arith, h j m))) ∙ pass_other_lem b a places i [] (off (member i places) refl) refl
    where
      off : (t : Bool) → member i places ≡ t → t ≡ false
      off true e = absurd (omega (arith, h i (member_in i places e)))
      off false e = refl

  pub starts_at_first : passed_below b a places (least places) ≡ going []
  starts_at_first = none_before (least places) (λ j m. least-below m)

  -- a no stays
  pub fed_stays : (i n : ℕ) → i ≤ n → passed_below b a places i ≡ fed_back → passed_below b a places n ≡ fed_back
  unfolding passed_below pass_place
  fed_stays = later (passed_below b a places) (λ n e. ap (pass_place b a places n) e)

-- ---- lists with the same members

abbrev SameMembers : List ℕ → List ℕ → Type 0
SameMembers xs ys = (x : ℕ) → Memᴰ x xs ↔ Memᴰ x ys

same-greatest : (xs ys : List ℕ) → SameMembers xs ys → greatest xs ≡ greatest ys
same-greatest [] [] h = refl
same-greatest [] (y ∷ ys) h = absurd (Memᴰ.not-nil ((h y).1 (Memᴰ.head refl)))
same-greatest (x ∷ xs) ys h =
    sym (greatest-is ((h (greatest (x ∷ xs))).0 (greatest_in (Memᴰ.head {x = x} refl))) (λ z m. greatest-above ((h z).1 m)))

same-least : (xs ys : List ℕ) → SameMembers xs ys → least xs ≡ least ys
same-least [] [] h = refl
same-least [] (y ∷ ys) h = absurd (Memᴰ.not-nil ((h y).1 (Memᴰ.head refl)))
same-least (x ∷ xs) ys h =
    sym (least-is ((h (least (x ∷ xs))).0 (least_in (Memᴰ.head {x = x} refl))) (λ z m. least-below ((h z).1 m)))

-- ---- the places of the list's nodes

module _ {b a : List ℕ} (acc : Accepted b a) (room : W b ≤ length a) where
  module _ (list : List ℕ) (known : Below (N b) list) where
    place-to : (i : ℕ) → Memᴰ i (places_of b a list) → Memᴰ i (map (place_of b a) list)
    place-to i m =
        Memᴰ.cast (sym (place_of_node acc room i (place-known b a list m)))
        (Memᴰ.map (place_of b a) (member_in (node_at b a i) list (place-listed b a list m)))

    place-back : (i : ℕ) → Memᴰ i (map (place_of b a) list) → Memᴰ i (places_of b a list)
    place-back i m = go (Memᴰ.of_map (place_of b a) list m)
      where
        go : (v : ℕ) × Memᴰ v list × (place_of b a v ≡ i) → Memᴰ i (places_of b a list)
        go p =
            let h = member_below known p.1 in
            Memᴰ.cast (sym p.2)
            (listed-place b a list (place_of b a p.0) (place-below acc room p.0 h) (member_at (Memᴰ.cast (node_of_place acc room p.0 h) p.1)))

    pub first-place : least (places_of b a list) ≡ least (map (place_of b a) list)
    first-place = same-least (places_of b a list) (map (place_of b a) list) (λ i. (place-to i, place-back i))

    pub last-place : greatest (places_of b a list) ≡ greatest (map (place_of b a) list)
    last-place = same-greatest (places_of b a list) (map (place_of b a) list) (λ i. (place-to i, place-back i))

  -- one node more: its place is listed too
  pub list-one : (list : List ℕ) (v : ℕ) → v < N b
      → set (mark_words (places_of b a list) (N b)) (place_of b a v) 1 ≡ mark_words (places_of b a (list ++ (v ∷ []))) (N b)
  list-one list v h =
      set-table (λ i. one (member i (places_of b a list))) (λ i. one (member i (places_of b a (list ++ (v ∷ []))))) (N b) (place_of b a v) 1
      (place-below acc room v h) (ap one here) (λ i l ne. ap one (there i l ne))
    where
      longer : List ℕ
      longer = list ++ (v ∷ [])

      here : member (place_of b a v) (places_of b a longer) ≡ true
      here =
          member-place b a longer (place_of b a v) (place-below acc room v h) ∙ ap (λ (u : ℕ). member u longer) (node_of_place acc room v h)
          ∙ member-new list v

      there : (i : ℕ) → i < N b → i ≢ place_of b a v → member i (places_of b a longer) ≡ member i (places_of b a list)
      there i l ne =
          member-place b a longer i l
          ∙ member_old list v (node_at b a i) (λ e. ne (sym (place_of_node acc room i l) ∙ ap (place_of b a) e))
          ∙ sym (member-place b a list i l)

-- ---- at most one place

-- the loop says yes by itself
pub passing_loop : {b a : List ℕ} → Accepted b a → Sound b → W b ≤ length a → (list : List ℕ)
    → passing b a list ≡ reply_of (passed_below b a (places_of b a list) (suc (greatest (places_of b a list))))
unfolding passing reply_of
passing_loop {b} {a} acc s room list = go (leb (length places) 1) refl
  where
    places : List ℕ
    places = places_of b a list

    nobody : (xs : List ℕ) → length xs < 1 → (x : ℕ) → Memᴰ x xs → ⊥
    nobody [] h x m = Memᴰ.not-nil m
    nobody (y ∷ ys) h x m = omega arith

    answer : (w : Passed) → Stands b a list (suc (greatest places)) w → Convex b list → Yes ≡ reply_of w
    answer (going marked) g c = refl
    answer fed_back n c = absurd (n c)

    few : Dec (length places < 1) → length places ≤ 1 → Yes ≡ reply_of (passed_below b a places (suc (greatest places)))
    few (yes none) h = ap reply_of (sym (none_before b a places (suc (greatest places)) (λ j m. absurd (nobody places none j m))))
    few (no some) h =
        answer (passed_below b a places (suc (greatest places)))
        (stands acc s room list (suc (greatest places)) (ranged acc s room list (omega arith)).ends) (few_convex acc s room list h)

    go : (t : Bool) → leb (length places) 1 ≡ t
        → cond t Yes (reply_of (passed_below b a places (suc (greatest places)))) ≡ reply_of (passed_below b a places (suc (greatest places)))
    go true e = few (dec_lt (length places) 1) (leb-true (length places) 1 e)
    go false e = refl
