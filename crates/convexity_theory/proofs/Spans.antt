-- The intervals of a list of known nodes: records that fit it; or a gap on a line, and then the list is not convex.
-- Rests on Extremes, Memberships and Paths.
use Prim.Native.Nat.{ℕ, ◌≤◌, ◌<◌}
use native.Mathlib.Omega.{arith}
use mathlib.Core.Path.{◌≡◌, refl, sym, ap, ◌∙◌, subst}
use mathlib.Core.Bool.{Bool, true, false, not, ◌&&◌, ◌||◌, cond, true≢false, and-eq-true_iff, or-false}
use mathlib.Core.List.Memᴰ
use mathlib.Core.List.{List, [], ◌∷◌, map, flat_map, Memᴰ}
use lib.Dec.{leb}
use borrow.Author.Tests.{le-leb, leb-true, not-false}
use Rattle.lists.specs.Lists.{all, keep, member, greatest, In}
use Rattle.lists.proofs.Tests.{or_false_both}
use Rattle.lists.proofs.Places.{times_in, times_in_back}
use Rattle.lists.proofs.Members.{MemberFor, member_for, member-times}
use Rattle.paper.specs.Map.{N}
use Rattle.paper.specs.Area.{K, position, lines_of, nodes_of}
use Rattle.paper.specs.Intervals.{Interval, records, apart, touched, listed_positions, interval, within, contiguous, intervals}
use Rattle.paper.specs.Walk.{M}
use Rattle.paper.specs.Plain.{Convex, highest_lowest}
use Rattle.convexity_theory.specs.Lined.{Lined}
use Rattle.convexity_theory.specs.Fits.{ListedAt, Spans, Fits}
use Rattle.convexity_theory.proofs.Memberships.{
  in_mem,
  mem_in,
  in_member,
  member_in,
  in_keep,
  kept,
  in_once,
  of_once,
  PartWith,
  in_flat_map,
  of_flat_map,
  Some,
  all-each,
  all-some,
}
use Rattle.convexity_theory.proofs.Extremes.{greatest-most, greatest_in, least-most, least_in}
use Rattle.convexity_theory.proofs.Line.{same-node}
use Rattle.convexity_theory.proofs.Paths.{climbs}

-- ---- the listed nodes of a line

module _ (b a list : List ℕ) (l : ℕ) where
  listed-position : (v : ℕ) → In v list → In v (nodes_of b a l) → In (position b a v) (listed_positions b a list l)
  unfolding listed_positions
  listed-position v i j =
      times_in_back (position b a v) (map (position b a) (keep (λ u. member u list) (nodes_of b a l)))
      (member-times (position b a)
      (in_mem (keep (λ u. member u list) (nodes_of b a l)) (in_keep (λ u. member u list) v (nodes_of b a l) (in_member v list i) j)))

  position-listed : (p : ℕ) → In p (listed_positions b a list l) → ListedAt b a list l p
  unfolding listed_positions
  position-listed p i = go (member_for (position b a) p nodes (times_in p (map (position b a) nodes) i))
    where
      nodes : List ℕ
      nodes = keep (λ u. member u list) (nodes_of b a l)

      go : MemberFor (position b a) p nodes → ListedAt b a list l p
      go m =
          let on = kept (λ u. member u list) m.which (nodes_of b a l) (mem_in nodes m.there) in
          record { node = m.which; in_list = member_in m.which list on.0; on_line = on.1; stands = sym m.has }

  module _ (v : ℕ) (i : In v list) (j : In v (nodes_of b a l)) where
    lowest-listed : ListedAt b a list l (interval b a list l).lowest
    unfolding interval
    lowest-listed = position-listed _ (least_in (position b a v) (listed_positions b a list l) (listed-position v i j))

    highest-listed : ListedAt b a list l (interval b a list l).highest
    unfolding interval
    highest-listed = position-listed _ (greatest_in (position b a v) (listed_positions b a list l) (listed-position v i j))

    lowest-least : (interval b a list l).lowest ≤ position b a v
    unfolding interval
    lowest-least = least-most (position b a v) (listed_positions b a list l) (listed-position v i j)

    highest-most : position b a v ≤ (interval b a list l).highest
    unfolding interval
    highest-most = greatest-most (position b a v) (listed_positions b a list l) (listed-position v i j)

-- ---- records or a gap

-- what the intervals of a list come to
pub data Spanned (b a list : List ℕ) : Type 0 where
  fitting : (rs : List Interval) → intervals b a list ≡ records rs → Fits b a list rs → M rs ≡ highest_lowest b a list → Spanned b a list
  gap : intervals b a list ≡ apart → (Convex b list → ⊥) → Spanned b a list

module _ {b a : List ℕ} (lined : Lined b a) (list : List ℕ) (known : (v : ℕ) → In v list → v < N b) where
  -- a line is touched by a listed node that stands on it
  record Touching (l : ℕ) : Type 0 where
    node : ℕ
    in_list : In node list
    line_known : l < K b a
    on_line : In node (nodes_of b a l)

  touching : (l : ℕ) → In l (touched b a list) → Touching l
  unfolding touched
  touching l i = go (of_flat_map (lines_of b a) l list (of_once l (flat_map (lines_of b a) list) i))
    where
      go : PartWith (lines_of b a) l list → Touching l
      go p =
          let i = mem_in list p.there in
          let h = known p.which i in
          record {
            node = p.which;
            in_list = i;
            line_known = lined.known p.which l h p.has;
            on_line = lined.listed p.which l h p.has;
          }

  touches : (v l : ℕ) → In v list → l < K b a → In v (nodes_of b a l) → In l (touched b a list)
  unfolding touched
  touches v l i h j = in_once l (flat_map (lines_of b a) list) (in_flat_map (lines_of b a) l (in_mem list i) (lined.lists v l h j))

  module _ {l : ℕ} (t : Touching l) where
    spans-line : contiguous b a list l ≡ true → Spans b a list (interval b a list l)
    unfolding contiguous within interval
    spans-line e =
        record {
          known = t.line_known;
          low = lowest-listed b a list l t.node t.in_list t.on_line;
          high = highest-listed b a list l t.node t.in_list t.on_line;
          at_least = λ v i j. lowest-least b a list l v i j;
          at_most = λ v i j. highest-most b a list l v i j;
          inside = λ v j low high. member_in v list (listed v low high (all-each _ (in_mem (nodes_of b a l) j) e));
        }
      where
        listed : (v : ℕ) → (interval b a list l).lowest ≤ position b a v → position b a v ≤ (interval b a list l).highest
            → (member v list || not (leb (interval b a list l).lowest (position b a v) && leb (position b a v) (interval b a list l).highest)) ≡ true
            → member v list ≡ true
        listed v low high e = sym (or-false (member v list)) ∙ rw (le-leb _ _ low, le-leb _ _ high) at e

    -- a listed and an unlisted node of the line do not stand at one position
    no_tie : (u v : ℕ) → In u list → (In v list → ⊥) → In u (nodes_of b a l) → In v (nodes_of b a l) → position b a u ≡ position b a v → ⊥
    no_tie u v i out j k e =
        out (subst (λ (x : ℕ). In x list) (same-node (position b a) (nodes_of b a l) (lined.rises l t.line_known) j k e) i)

    -- an unlisted node between has a path to it from below and one from it to above
    gap_at : (v : ℕ) → (In v list → ⊥) → In v (nodes_of b a l) → (interval b a list l).lowest ≤ position b a v
        → position b a v ≤ (interval b a list l).highest → Convex b list → ⊥
    gap_at v out j low high convex =
        let bottom = lowest-listed b a list l t.node t.in_list t.on_line in
        let top = highest-listed b a list l t.node t.in_list t.on_line in
        let under = no_tie bottom.node v bottom.in_list out bottom.on_line j in
        let over = no_tie top.node v top.in_list out top.on_line j in
        convex bottom.node v top.node bottom.in_list
        (climbs lined l t.line_known bottom.node v bottom.on_line j (omega (arith, bottom.stands)))
        out
        (climbs lined l t.line_known v top.node j top.on_line (omega (arith, top.stands)))
        top.in_list

    gap_on-line : contiguous b a list l ≡ false → Convex b list → ⊥
    unfolding contiguous within
    gap_on-line e convex = go (all-some _ (nodes_of b a l) e)
      where
        r : Interval
        r = interval b a list l

        go : Some (λ v. member v list || not (leb r.lowest (position b a v) && leb (position b a v) r.highest)) false (nodes_of b a l) → ⊥
        go s =
            let v = s.which in
            let out = or_false_both (member v list) (not (leb r.lowest (position b a v) && leb (position b a v) r.highest)) s.says in
            let between = (and-eq-true_iff (leb r.lowest (position b a v)) (leb (position b a v) r.highest)).0 (not-false _ out.1) in
            gap_at v (λ i. true≢false (sym (in_member v list i) ∙ out.0)) (mem_in (nodes_of b a l) s.there) (leb-true _ _ between.0)
            (leb-true _ _ between.1) convex

  fits : all (contiguous b a list) (touched b a list) ≡ true → Fits b a list (map (interval b a list) (touched b a list))
  unfolding interval
  fits e =
      record {
        spans = λ r m. spans (Memᴰ.of_map (interval b a list) (touched b a list) m);
        covers = λ v l i h j. record {
          which = interval b a list l;
          there = Memᴰ.map (interval b a list) (in_mem (touched b a list) (touches v l i h j));
          of_line = refl;
        };
      }
    where
      spans : {r : Interval} → (l : ℕ) × Memᴰ l (touched b a list) × (interval b a list l ≡ r) → Spans b a list r
      spans m =
          subst (Spans b a list) m.2
          (spans-line (touching m.0 (mem_in (touched b a list) m.1)) (all-each (contiguous b a list) m.1 e))

  highest-lowest : M (map (interval b a list) (touched b a list)) ≡ highest_lowest b a list
  unfolding M highest_lowest
  highest-lowest = ap greatest (lowests (touched b a list))
    where
      lowests : (ls : List ℕ) → map (λ r. r.lowest) (map (interval b a list) ls) ≡ map (λ l. (interval b a list l).lowest) ls
      lowests [] = refl
      lowests (l ∷ ls) = ap (λ (ps : List ℕ). (interval b a list l).lowest ∷ ps) (lowests ls)

  intervals_are : (t : Bool) → all (contiguous b a list) (touched b a list) ≡ t
      → intervals b a list ≡ cond t (records (map (interval b a list) (touched b a list))) apart
  unfolding intervals
  intervals_are t e = rw e

  pub spanned : Spanned b a list
  spanned = go (all (contiguous b a list) (touched b a list)) refl
    where
      go : (t : Bool) → all (contiguous b a list) (touched b a list) ≡ t → Spanned b a list
      go true e = fitting _ (intervals_are true e) (fits e) highest-lowest
      go false e = gap (intervals_are false e) (λ convex. hole (all-some (contiguous b a list) (touched b a list) e) convex)
        where
          hole : Some (contiguous b a list) false (touched b a list) → Convex b list → ⊥
          hole s = gap_on-line (touching s.which (mem_in (touched b a list) s.there)) s.says
