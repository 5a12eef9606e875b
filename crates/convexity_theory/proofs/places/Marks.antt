-- What the marks mean: a marked place is outside the list and reached from it; and where one feeds the list, the list is not convex.
-- Rests on Neighbours, Listed and Passing.
use Prim.Native.Nat.{ℕ, zero, suc, ◌≤◌, ◌<◌}
use native.Mathlib.Decide.{dec_lt}
use native.Mathlib.Omega.{arith}
use mathlib.Core.Path.{◌≡◌, refl, sym, ap, ◌∙◌, subst}
use mathlib.Core.Logic.{◌⊎◌, inl, inr}
use mathlib.Core.Bool.{Bool, true, false, not, true≢false}
use mathlib.Core.List.Memᴰ
use mathlib.Core.List.{List, [], ◌++◌, append-nil, Memᴰ}
use lib.ListN.{length}
use borrow.Author.Tests.{not-true}
use Rattle.lists.specs.Lists.{any, member, In}
use Rattle.lists.proofs.Members.{member_yes, keep-there}
use Rattle.lists.proofs.Places.{times_in, times_in_back}
use Rattle.accepted_theory.proofs.recorded.Among.{MemberPassing, any_by, none_at, there-times, keep_at, keep_passes, member_at, member_in}
use Rattle.paper.specs.Map.{N}
use Rattle.paper.specs.Area.{W}
use Rattle.paper.specs.Accepted.{Accepted}
use Rattle.paper.specs.OrderCheck.{places_of, in_range, neighbour_places}
use Rattle.paper.specs.Plain.{Linked, DirectedPath, link, onward, Convex, Reached}
use Rattle.order_theory.specs.Sound.{Sound}
use Rattle.convexity_theory.specs.places.Passed.{Passed, going, fed_back, pass_place, passed_below}
use Rattle.convexity_theory.specs.places.Places.{node_at}
use Rattle.convexity_theory.proofs.places.Neighbours.{next}
use Rattle.convexity_theory.proofs.places.Listed.{member-place, place-listed}
use Rattle.convexity_theory.proofs.places.Passing.{outsiders, pass_listed, pass_feeding, pass_marked, pass_other_lem}

pub in_member : (v : ℕ) (list : List ℕ) → In v list → member v list ≡ true
in_member v list h = member_yes v list (times_in v list h)

pub member-listed : (v : ℕ) (list : List ℕ) → member v list ≡ true → In v list
member-listed v list e = times_in_back v list (there-times (member_in v list e))

-- a path and one link more
further : {b : List ℕ} {u v w : ℕ} → DirectedPath b u v → Linked b v w → DirectedPath b u w
further (link r) q = onward r (link q)
further (onward r p) q = onward r (further p q)

-- the marks after all places below i
pub record Marks (b a list : List ℕ) (i : ℕ) (marked : List ℕ) : Type 0 where
  pub outside : (j : ℕ) → Memᴰ j marked → member j (places_of b a list) ≡ false
  pub range : (j : ℕ) → Memᴰ j marked → in_range (places_of b a list) j ≡ true
  pub reached : (j : ℕ) → Memᴰ j marked → Reached b list (node_at b a j)
  -- the neighbours of a place passed
  pub of_listed : (p : ℕ) → p < i → member p (places_of b a list) ≡ true → (j : ℕ) → Memᴰ j (neighbour_places b a (places_of b a list) p)
      → member j (places_of b a list) ≡ false → Memᴰ j marked
  pub of_marked : (p : ℕ) → p < i → Memᴰ p marked → (j : ℕ) → Memᴰ j (neighbour_places b a (places_of b a list) p) → Memᴰ j marked

-- what stands after all places below i
abbrev pub Stands : List ℕ → List ℕ → List ℕ → ℕ → Passed → Type 0
Stands b a list i (going marked) = Marks b a list i marked
Stands b a list i fed_back = Convex b list → ⊥

no_marks : (b a list : List ℕ) → Marks b a list 0 []
no_marks b a list =
    record {
      outside = λ j m. absurd (Memᴰ.not-nil m);
      range = λ j m. absurd (Memᴰ.not-nil m);
      reached = λ j m. absurd (Memᴰ.not-nil m);
      of_listed = λ p l. absurd (omega arith);
      of_marked = λ p l. absurd (omega arith);
    }

module _ {b a : List ℕ} (acc : Accepted b a) (s : Sound b) (room : W b ≤ length a) (list : List ℕ) {i : ℕ} (known : i < N b) where
  abbrev places : List ℕ
  places = places_of b a list

  abbrev near : List ℕ
  near = neighbour_places b a places i

  module _ {marked : List ℕ} (g : Marks b a list i marked) where
    -- the marks that place i adds
    record New (new : List ℕ) : Type 0 where
      here : (j : ℕ) → Memᴰ j new → Memᴰ j near
      out : (j : ℕ) → Memᴰ j new → member j places ≡ false
      reached : (j : ℕ) → Memᴰ j new → Reached b list (node_at b a j)
      of_listed : member i places ≡ true → (j : ℕ) → Memᴰ j near → member j places ≡ false → Memᴰ j new
      of_marked : Memᴰ i marked → (j : ℕ) → Memᴰ j near → Memᴰ j new

    more : {new : List ℕ} → New new → Marks b a list (suc i) (marked ++ new)
    more {new} n =
        record {
          outside = λ j m. outside j (Memᴰ.append_cases marked m);
          range = λ j m. range j (Memᴰ.append_cases marked m);
          reached = λ j m. reached j (Memᴰ.append_cases marked m);
          of_listed = λ p l e j m q. listed p l e j m q (dec_lt p i);
          of_marked = λ p l o j m. followed p l (Memᴰ.append_cases marked o) j m (dec_lt p i);
        }
      where
        outside : (j : ℕ) → Memᴰ j marked ⊎ Memᴰ j new → member j places ≡ false
        outside j (inl m) = g.outside j m
        outside j (inr m) = n.out j m

        range : (j : ℕ) → Memᴰ j marked ⊎ Memᴰ j new → in_range places j ≡ true
        range j (inl m) = g.range j m
        range j (inr m) = (next acc s room places known (n.here j m)).range

        reached : (j : ℕ) → Memᴰ j marked ⊎ Memᴰ j new → Reached b list (node_at b a j)
        reached j (inl m) = g.reached j m
        reached j (inr m) = n.reached j m

        same : (p : ℕ) → p ≡ i → (j : ℕ) → Memᴰ j (neighbour_places b a places p) → Memᴰ j near
        same p e j m = subst (λ (q : ℕ). Memᴰ j (neighbour_places b a places q)) e m

        listed : (p : ℕ) → p < suc i → member p places ≡ true → (j : ℕ) → Memᴰ j (neighbour_places b a places p) → member j places ≡ false
            → Dec (p < i) → Memᴰ j (marked ++ new)
        listed p l e j m q (yes h) = Memᴰ.append_left new (g.of_listed p h e j m q)
        listed p l e j m q (no h) =
            let here : p ≡ i = omega arith in
            Memᴰ.append_right marked (n.of_listed (ap (λ (x : ℕ). member x places) (sym here) ∙ e) j (same p here j m) q)

        -- the places marked now stand behind i
        followed : (p : ℕ) → p < suc i → Memᴰ p marked ⊎ Memᴰ p new → (j : ℕ) → Memᴰ j (neighbour_places b a places p)
            → Dec (p < i) → Memᴰ j (marked ++ new)
        followed p l (inl o) j m (yes h) = Memᴰ.append_left new (g.of_marked p h o j m)
        followed p l (inl o) j m (no h) =
            let here : p ≡ i = omega arith in
            Memᴰ.append_right marked (n.of_marked (Memᴰ.cast (sym here) o) j (same p here j m))
        followed p l (inr o) j m d = absurd (omega (arith, (next acc s room places known (n.here p o)).later))

    -- ---- the cases of a place

    node-out : member i places ≡ false → In (node_at b a i) list → ⊥
    node-out out h = true≢false (sym (in_member (node_at b a i) list h) ∙ sym (member-place b a list i known) ∙ out)

    linked : {j : ℕ} → Memᴰ j near → Linked b (node_at b a i) (node_at b a j)
    linked m = (next acc s room places known m).linked

    new-listed : member i places ≡ true → New (outsiders b a places i)
    new-listed e =
        record {
          here = here;
          out = λ j m. not-true (member j places) (keep_passes (λ x. not (member x places)) near m);
          reached = λ j m. (node_at b a i, member-listed (node_at b a i) list (place-listed b a list (member_in i places e)), link (linked (here j m)));
          of_listed = λ p j m q. keep_at (λ x. not (member x places)) m (ap not q);
          of_marked = λ m. absurd (true≢false (sym e ∙ g.outside i m));
        }
      where
        here : (j : ℕ) → Memᴰ j (outsiders b a places i) → Memᴰ j near
        here j m = keep-there (λ x. not (member x places)) near m

    new-marked : Memᴰ i marked → any (λ j. member j places) near ≡ false → New near
    new-marked on none =
        let r = g.reached i on in
        record {
          here = λ j m. m;
          out = λ j m. none_at (λ x. member x places) none m;
          reached = λ j m. (r.0, r.1, further r.2 (linked m));
          of_listed = λ e j m q. m;
          of_marked = λ o j m. m;
        }

    new_none : member i places ≡ false → member i marked ≡ false → New []
    new_none out off =
        record {
          here = λ j m. absurd (Memᴰ.not-nil m);
          out = λ j m. absurd (Memᴰ.not-nil m);
          reached = λ j m. absurd (Memᴰ.not-nil m);
          of_listed = λ e. absurd (true≢false (sym e ∙ out));
          of_marked = λ m. absurd (true≢false (sym (member_at m) ∙ off));
        }

    -- a marked place that feeds the list
    feeds : member i places ≡ false → Memᴰ i marked → MemberPassing (λ j. member j places) near → Convex b list → ⊥
    feeds out on w convex =
        let r = g.reached i on in
        let j = w.which in
        convex r.0 (node_at b a i) (node_at b a j) r.1 r.2 (node-out out) (link (linked w.there))
        (member-listed (node_at b a j) list (place-listed b a list (member_in j places w.passes)))

    passed : (p m f : Bool) → member i places ≡ p → member i marked ≡ m → any (λ j. member j places) near ≡ f
        → Stands b a list (suc i) (pass_place b a places i (going marked))
    passed true m f p q e =
        subst (Stands b a list (suc i)) (sym (pass_listed b a places i marked p)) (more (new-listed p))
    passed false true true p q e =
        subst (Stands b a list (suc i)) (sym (pass_feeding b a places i marked p q e)) (feeds p (member_in i marked q) (any_by (λ j. member j places) near e))
    passed false true false p q e =
        subst (Stands b a list (suc i)) (sym (pass_marked b a places i marked p q e)) (more (new-marked (member_in i marked q) e))
    passed false false f p q e =
        subst (Stands b a list (suc i)) (ap going (append-nil marked) ∙ sym (pass_other_lem b a places i marked p q)) (more (new_none p q))

module _ {b a : List ℕ} (acc : Accepted b a) (s : Sound b) (room : W b ≤ length a) (list : List ℕ) where
  pub stands : (i : ℕ) → i ≤ N b → Stands b a list i (passed_below b a (places_of b a list) i)
  unfolding passed_below pass_place
  stands zero h = no_marks b a list
  stands (suc i) h = go (passed_below b a (places_of b a list) i) (stands i (omega arith))
    where
      go : (w : Passed) → Stands b a list i w → Stands b a list (suc i) (pass_place b a (places_of b a list) i w)
      go fed_back c = c
      go (going marked) g =
          passed acc s room list h g (member i (places_of b a list)) (member i marked)
          (any (λ j. member j (places_of b a list)) (neighbour_places b a (places_of b a list) i)) refl refl refl
