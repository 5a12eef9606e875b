-- The order check says yes exactly if the list is convex.
-- Rests on Together (01's step by step is place by place) and Marks (what the marks mean).
use Prim.Native.Nat.{ℕ, suc, ◌≤◌, ◌<◌}
use native.Mathlib.Omega.{arith}
use mathlib.Core.Path.{◌≡◌, refl, sym, ap, ◌∙◌, subst₂}
use mathlib.Core.Logic.{◌↔◌, ◌⊎◌, inl, inr}
use mathlib.Core.Bool.{Bool, true, false, cond, true≢false}
use mathlib.Core.List.Memᴰ
use mathlib.Core.List.{List, [], ◌∷◌, Memᴰ}
use lib.ListN.{length}
use lib.Dec.{leb}
use borrow.Author.Tests.{leb-true, leb-false}
use Rattle.lists.specs.Lists.{member, least, greatest, In}
use Rattle.accepted_theory.proofs.recorded.Among.{member_in}
use Rattle.accepted_theory.proofs.recorded.Chosen.{least-below, greatest-above}
use Rattle.paper.specs.Map.{N}
use Rattle.paper.specs.Area.{W}
use Rattle.paper.specs.Accepted.{Accepted}
use Rattle.paper.specs.Intervals.{Yes, No}
use Rattle.paper.specs.OrderCheck.{places_of, neighbour_places, order_check}
use Rattle.paper.specs.Plain.{Linked, DirectedPath, link, onward, Convex}
use Rattle.order_theory.specs.Sound.{Sound}
use Rattle.convexity_theory.specs.places.Passed.{Passed, going, fed_back, passed_below, reply_of, passing}
use Rattle.convexity_theory.specs.places.Places.{place_of}
use Rattle.convexity_theory.proofs.places.Places.{place-below, node_of_place, link_later}
use Rattle.convexity_theory.proofs.places.Neighbours.{next-back}
use Rattle.convexity_theory.proofs.places.Listed.{in_range_lem, member-place, ranged}
use Rattle.convexity_theory.proofs.places.Together.{passing-is}
use Rattle.convexity_theory.proofs.places.Marks.{in_member, member-listed, Marks, Stands, stands}

pub no_yes : No ≡ Yes → ⊥
no_yes e = let z : ◌≡◌ {A = ℕ} 0 1 = cc in omega arith

-- ---- paths

module _ {b : List ℕ} (s : Sound b) where
  source_known : {u v : ℕ} → Linked b u v → u < N b
  source_known r = omega (arith, s.source r.link r.known, r.source)

  target-known : {u v : ℕ} → Linked b u v → v < N b
  target-known r = omega (arith, s.target r.link r.known, r.target)

  path-source : {u v : ℕ} → DirectedPath b u v → u < N b
  path-source (link r) = source_known r
  path-source (onward r p) = source_known r

  path-target : {u v : ℕ} → DirectedPath b u v → v < N b
  path-target (link r) = target-known r
  path-target (onward r p) = path-target p

path_later : {b a : List ℕ} → Accepted b a → {u v : ℕ} → DirectedPath b u v → place_of b a u < place_of b a v
path_later acc (link r) = link_later acc r
path_later acc (onward r p) = omega (arith, link_later acc r, path_later acc p)

module _ {b a : List ℕ} (acc : Accepted b a) (s : Sound b) (room : W b ≤ length a) (list : List ℕ) where
  abbrev places : List ℕ
  places = places_of b a list

  -- a node is listed exactly if its place is
  place_is : (v : ℕ) → v < N b → member (place_of b a v) places ≡ member v list
  place_is v h =
      member-place b a list (place_of b a v) (place-below acc room v h) ∙ ap (λ (u : ℕ). member u list) (node_of_place acc room v h)

  listed_in : (v : ℕ) → v < N b → In v list → member (place_of b a v) places ≡ true
  listed_in v h i = place_is v h ∙ in_member v list i

  -- what goes on from place to neighbour within the range goes on along a path
  module _ (C : ℕ → Type 0) (on : (i : ℕ) → i ≤ greatest places → (j : ℕ) → Memᴰ j (neighbour_places b a places i) → C i → C j) where
    along-link : {u v : ℕ} → Linked b u v → least places ≤ place_of b a u → place_of b a v ≤ greatest places → C (place_of b a u) → C (place_of b a v)
    along-link {u} {v} r low high c =
        on (place_of b a u) (omega (arith, link_later acc r)) (place_of b a v)
        (next-back acc s room places (place-below acc room u (source_known s r))
        (record {
          known = place-below acc room v (target-known s r);
          later = link_later acc r;
          linked = subst₂ (Linked b) (sym (node_of_place acc room u (source_known s r))) (sym (node_of_place acc room v (target-known s r))) r;
          range = in_range_lem places (place_of b a v) (omega (arith, link_later acc r)) high;
        }))
        c

    along : {u v : ℕ} → DirectedPath b u v → least places ≤ place_of b a u → place_of b a v ≤ greatest places → C (place_of b a u) → C (place_of b a v)
    along (link r) low high c = along-link r low high c
    along (onward r p) low high c =
        along p (omega (arith, link_later acc r)) high (along-link r low (omega (arith, path_later acc p)) c)

  -- ---- yes, then convex

  marks_convex : {marked : List ℕ} → Marks b a list (suc (greatest places)) marked → Convex b list
  marks_convex {marked} g u x w at-u to-x out to-w at-w =
      true≢false (sym (listed_in w known_w at-w) ∙ g.outside (place_of b a w) marked_w)
    where
      known_u : u < N b
      known_u = path-source s to-x

      known_w : w < N b
      known_w = path-target s to-w

      low : least places ≤ place_of b a u
      low = least-below (member_in (place_of b a u) places (listed_in u known_u at-u))

      high : place_of b a w ≤ greatest places
      high = greatest-above (member_in (place_of b a w) places (listed_in w known_w at-w))

      -- listed or marked
      Held : ℕ → Type 0
      Held i = (member i places ≡ true) ⊎ Memᴰ i marked

      go_on : (i : ℕ) → i ≤ greatest places → (j : ℕ) → Memᴰ j (neighbour_places b a places i) → Held i → Held j
      go_on i l j m (inr o) = inr (g.of_marked i (omega arith) o j m)
      go_on i l j m (inl e) = go (member j places) refl
        where
          go : (t : Bool) → member j places ≡ t → Held j
          go true q = inl q
          go false q = inr (g.of_listed i (omega arith) e j m q)

      marked_x : Memᴰ (place_of b a x) marked
      marked_x = pick (along Held go_on to-x low (omega (arith, high, path_later acc to-w)) (inl (listed_in u known_u at-u)))
        where
          pick : Held (place_of b a x) → Memᴰ (place_of b a x) marked
          pick (inl e) = absurd (out (member-listed x list (sym (place_is x (path-target s to-x)) ∙ e)))
          pick (inr m) = m

      marked_w : Memᴰ (place_of b a w) marked
      marked_w =
          along (λ i. Memᴰ i marked) (λ i l j m o. g.of_marked i (omega arith) o j m) to-w (omega (arith, low, path_later acc to-x)) high marked_x

  -- with at most one listed place no path comes back: places rise along links
  pub few_convex : length places ≤ 1 → Convex b list
  few_convex few u x w at-u to-x out to-w at-w =
      omega (
        arith,
        path_later acc to-x,
        path_later acc to-w,
        same places few (member_in (place_of b a u) places (listed_in u (path-source s to-x) at-u))
            (member_in (place_of b a w) places (listed_in w (path-target s to-w) at-w)),
      )
    where
      same : (xs : List ℕ) → length xs ≤ 1 → {i j : ℕ} → Memᴰ i xs → Memᴰ j xs → i ≡ j
      same [] h m n = absurd (Memᴰ.not-nil m)
      same (y ∷ []) h m n = Memᴰ.eq_of_singleton m ∙ sym (Memᴰ.eq_of_singleton n)
      same (y ∷ (z ∷ zs)) h m n = absurd (omega arith)

  -- ---- the answer

  pub passing_convex : (passing b a list ≡ Yes) ↔ Convex b list
  unfolding passing reply_of
  passing_convex = go (leb (length places) 1) refl
    where
      answer : (w : Passed) → Stands b a list (suc (greatest places)) w → (reply_of w ≡ Yes) ↔ Convex b list
      answer (going marked) g = (λ e. marks_convex g, λ c. refl)
      answer fed_back c = (λ e. absurd (no_yes e), λ convex. absurd (c convex))

      go : (t : Bool) → leb (length places) 1 ≡ t → (cond t Yes (reply_of (passed_below b a places (suc (greatest places)))) ≡ Yes) ↔ Convex b list
      go true e = (λ q. few_convex (leb-true (length places) 1 e), λ c. refl)
      go false e =
          let r = ranged acc s room list (omega (arith, leb-false (length places) 1 e)) in
          answer (passed_below b a places (suc (greatest places))) (stands acc s room list (suc (greatest places)) r.ends)

  pub order_convex : (order_check b a list ≡ Yes) ↔ Convex b list
  order_convex = (λ e. passing_convex.0 (passing-is acc s room list ∙ e), λ c. sym (passing-is acc s room list) ∙ passing_convex.1 c)
