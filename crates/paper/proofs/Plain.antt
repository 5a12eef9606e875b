-- Demand 3's plain notions held against 01's maps by hand, apart from any check: in map A which lists are convex, in map B which steps are ahead.
-- Rests on the definitions and on lists (membership by counts, tests and what they say).
use Prim.Native.Nat.{ℕ, ◌≤◌, ◌<◌}
use native.Mathlib.Decide.{ℕ_discrete}
use native.Mathlib.Omega.{arith}
use mathlib.Core.Path.{◌≡◌, refl, sym, ap, ◌∙◌, subst₂}
use mathlib.Core.Logic.{inl, inr}
use mathlib.Core.Bool.{Bool, true, false, true≢false, not, ◌&&◌, ◌||◌}
use mathlib.Core.List.{List, [], ◌∷◌}
use lib.ListN.{replicate}
use lib.Dec.{T, ltb→lt}
use Rattle.lists.specs.Lists.{upto, all, In, member, times}
use Rattle.lists.proofs.Members.{member_yes, member_no}
use Rattle.lists.proofs.Places.{times_in, times_in_back}
use Rattle.lists.proofs.Tests.{itself, ◌and◌, every-says}
use Rattle.paper.specs.Map.{L, link_from, link_to}
use Rattle.paper.specs.Area.{W, position}
use Rattle.paper.specs.Calls.{prepare}
use Rattle.paper.specs.Plain.{Linked, DirectedPath, link, onward, Convex, highest_lowest, Ahead, Number}
use Rattle.paper.proofs.Everything.{everything}
use Rattle.paper.proofs.Recording.{map_bytes}
use Rattle.paper.proofs.Cases.{map_a, map_b}

-- ---- paths

-- a path of no links is no path
begins : {b : List ℕ} {u w : ℕ} → DirectedPath b u w → (v : ℕ) × Linked b u v
begins (link {v = v} r) = (v, r)
begins (onward {v = v} r p) = (v, r)

linked : (b : List ℕ) (k : ℕ) → k < L b → Linked b (link_from b k) (link_to b k)
linked b k h = record { link = k; known = h; source = refl; target = refl }

not_in : (x : ℕ) (xs : List ℕ) → member x xs ≡ false → In x xs → ⊥
not_in x xs e i = true≢false (sym (member_yes x xs (times_in x xs i)) ∙ e)

member_in : (x : ℕ) (xs : List ℕ) → T (member x xs) → In x xs
member_in x xs t = go (ℕ_discrete (times x xs) 0)
  where
    go : Dec (times x xs ≡ 0) → In x xs
    go (yes e) = absurd (rw (member_no x xs e) at t)
    go (no ne) = times_in_back x xs (omega arith)

-- the list's steps are among some, and every link from one of those ends among them, at a step of `to`
within : List ℕ → List ℕ → Bool
within some = all (λ v. member v some)

follows : List ℕ → List ℕ → List ℕ → ℕ → Bool
follows b some to k = not (member (link_from b k) some) || (member (link_to b k) to && member (link_to b k) some)

leads : List ℕ → List ℕ → List ℕ → List ℕ → Bool
leads b list some to = within some list && all (follows b some to) (upto (L b))

module _ (b list some to : List ℕ) (sure : T (leads b list some to)) where
  tests : T (within some list) × ((k : ℕ) → k < L b → T (follows b some to k))
  unfolding leads
  tests = (itself (within some list) and every-says (λ k. itself (follows b some to k)) (L b)).to sure

  along-link : {u v : ℕ} → Linked b u v → T (member u some) → T (member v to) × T (member v some)
  unfolding follows
  along-link {u} {v} r =
      both (member u some) (member v to) (member v some)
      (subst₂ (λ (x y : ℕ). T (not (member x some) || (member y to && member y some))) r.source r.target (tests.1 r.link r.known))
    where
      both : (s t w : Bool) → T (not s || (t && w)) → T s → T t × T w
      both true true true h i = (tt, tt)
      both true true false h i = absurd h
      both true false w h i = absurd h
      both false t w h i = absurd i

  along : {u v : ℕ} → DirectedPath b u v → T (member u some) → T (member v to)
  along (link r) i = (along-link r i).0
  along (onward r p) i = along p (along-link r i).1

  -- all that a path from the list reaches stands in `to`
  reaches : {u x : ℕ} → In u list → DirectedPath b u x → In x to
  unfolding within
  reaches {u} {x} i p = member_in x to (along p (among list tests.0 i))
    where
      among : (xs : List ℕ) → T (all (λ v. member v some) xs) → In u xs → T (member u some)
      among [] t i = absurd i
      among (y ∷ ys) t (inl e) = rw e ((itself (member y some) and itself (within some ys)).to t).0
      among (y ∷ ys) t (inr i) = among ys ((itself (member y some) and itself (within some ys)).to t).1 i

-- ---- map A: links from 0 to 1 and 2, and from both to 3

unfoldable pub bytes_a : List ℕ
unfolding map_a
bytes_a = map_bytes map_a.nodes map_a.links

-- P2: from 1 and 2 only 3 is reached, and from 3 nothing
pub convex_1_2 : Convex bytes_a (1 ∷ 2 ∷ [])
unfolding everything bytes_a map_bytes map_a leads within follows
convex_1_2 u x w at-u to-x out to-w at-w =
    reaches bytes_a (3 ∷ []) (3 ∷ []) [] tt (reaches bytes_a (1 ∷ 2 ∷ []) (1 ∷ 2 ∷ 3 ∷ []) (3 ∷ []) tt at-u to-x) to-w

-- with all steps listed none is outside
convex_0_1_2_3 : Convex bytes_a (0 ∷ 1 ∷ 2 ∷ 3 ∷ [])
unfolding everything bytes_a map_bytes map_a leads within follows
convex_0_1_2_3 u x w at-u to-x out to-w at-w =
    out (inr (reaches bytes_a (0 ∷ 1 ∷ 2 ∷ 3 ∷ []) (0 ∷ 1 ∷ 2 ∷ 3 ∷ []) (1 ∷ 2 ∷ 3 ∷ []) tt at-u to-x))

-- P3: from 0 by 2 to 3
pub not_convex_0_1_3 : Convex bytes_a (0 ∷ 1 ∷ 3 ∷ []) → ⊥
unfolding everything bytes_a map_bytes map_a
not_convex_0_1_3 convex =
    convex 0 2 3 (inl refl) (link (linked bytes_a 1 (ltb→lt 1 4 tt))) (not_in 2 (0 ∷ 1 ∷ 3 ∷ []) refl) (link (linked bytes_a 3 (ltb→lt 3 4 tt)))
    (inr (inr (inl refl)))

-- ---- map B: links from 0 to 1, from there to 2 and 3; none from 6

unfoldable bytes_b : List ℕ
unfolding map_b
bytes_b = map_bytes map_b.nodes map_b.links

unfoldable area_b : List ℕ
area_b = (prepare bytes_b (replicate (W bytes_b) 9)).area

path-from_0 : {x : ℕ} → In x (1 ∷ 2 ∷ 3 ∷ []) → DirectedPath bytes_b 0 x
unfolding everything bytes_b map_bytes map_b
path-from_0 (inl e) = rw e (link (linked bytes_b 0 (ltb→lt 0 5 tt)))
path-from_0 (inr (inl e)) = rw e (onward (linked bytes_b 0 (ltb→lt 0 5 tt)) (link (linked bytes_b 1 (ltb→lt 1 5 tt))))
path-from_0 (inr (inr (inl e))) = rw e (onward (linked bytes_b 0 (ltb→lt 0 5 tt)) (link (linked bytes_b 2 (ltb→lt 2 5 tt))))
path-from_0 (inr (inr (inr e))) = absurd e

reached_of_0_6 : {u x : ℕ} → In u (0 ∷ 6 ∷ []) → DirectedPath bytes_b u x → In x (1 ∷ 2 ∷ 3 ∷ [])
unfolding everything bytes_b map_bytes map_b leads within follows
reached_of_0_6 = reaches bytes_b (0 ∷ 6 ∷ []) (0 ∷ 1 ∷ 2 ∷ 3 ∷ 6 ∷ []) (1 ∷ 2 ∷ 3 ∷ []) tt

reached_of_0_1 : {u x : ℕ} → In u (0 ∷ 1 ∷ []) → DirectedPath bytes_b u x → In x (1 ∷ 2 ∷ 3 ∷ [])
unfolding everything bytes_b map_bytes map_b leads within follows
reached_of_0_1 = reaches bytes_b (0 ∷ 1 ∷ []) (0 ∷ 1 ∷ 2 ∷ 3 ∷ []) (1 ∷ 2 ∷ 3 ∷ []) tt

-- 1 stands at 1; 2 and 3 stand at 2, as 6 does
most_0_6 : highest_lowest bytes_b area_b (0 ∷ 6 ∷ []) ≡ 2
unfolding everything bytes_b area_b map_bytes map_b
most_0_6 = refl

most_0_1 : highest_lowest bytes_b area_b (0 ∷ 1 ∷ []) ≡ 1
unfolding everything bytes_b area_b map_bytes map_b
most_0_1 = refl

stand_at : (position bytes_b area_b 1 ≡ 1) × (position bytes_b area_b 2 ≡ 2) × (position bytes_b area_b 3 ≡ 2)
unfolding everything bytes_b area_b map_bytes map_b
stand_at = (refl, refl, refl)

-- nothing is ahead of 0 and 1: 1 is reached, but listed; 2 and 3 stand above 1
nothing_ahead_of_0_1 : (x : ℕ) → Ahead bytes_b area_b (0 ∷ 1 ∷ []) x → ⊥
nothing_ahead_of_0_1 x h = go (reached_of_0_1 h.reached.1 h.reached.2)
  where
    above : {v : ℕ} → x ≡ v → position bytes_b area_b v ≡ 2 → ⊥
    above e up = omega (arith, ap (position bytes_b area_b) e, most_0_1)

    go : In x (1 ∷ 2 ∷ 3 ∷ []) → ⊥
    go (inl e) = h.outside (inr (inl e))
    go (inr (inl e)) = above e stand_at.1
    go (inr (inr (inl e))) = above e stand_at.2
    go (inr (inr (inr e))) = e

-- P7: 3 are ahead of 0 and 6, of which two stand as high as 6
ahead_of_0_6 : Number (Ahead bytes_b area_b (0 ∷ 6 ∷ [])) 3
ahead_of_0_6 =
    record {
      steps = 1 ∷ 2 ∷ 3 ∷ [];
      once = (not_in 1 (2 ∷ 3 ∷ []) refl, (not_in 2 (3 ∷ []) refl, (not_in 3 [] refl, tt)));
      exactly = λ x. (
        λ i. record { outside = apart i; reached = (0, inl refl, path-from_0 i); no_higher = omega (arith, low i, most_0_6) },
        λ h. reached_of_0_6 h.reached.1 h.reached.2,
      );
      size = refl;
    }
  where
    apart : {x : ℕ} → In x (1 ∷ 2 ∷ 3 ∷ []) → In x (0 ∷ 6 ∷ []) → ⊥
    apart (inl e) = rw e (not_in 1 (0 ∷ 6 ∷ []) refl)
    apart (inr (inl e)) = rw e (not_in 2 (0 ∷ 6 ∷ []) refl)
    apart (inr (inr (inl e))) = rw e (not_in 3 (0 ∷ 6 ∷ []) refl)
    apart (inr (inr (inr e))) = absurd e

    low : {x : ℕ} → In x (1 ∷ 2 ∷ 3 ∷ []) → position bytes_b area_b x ≤ 2
    low (inl e) = omega (arith, ap (position bytes_b area_b) e, stand_at.0)
    low (inr (inl e)) = omega (arith, ap (position bytes_b area_b) e, stand_at.1)
    low (inr (inr (inl e))) = omega (arith, ap (position bytes_b area_b) e, stand_at.2)
    low (inr (inr (inr e))) = absurd e
