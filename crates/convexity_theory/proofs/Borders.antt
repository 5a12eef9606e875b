-- Links over the border of a list that records fit: one out of it leads to a start node, one into it comes from a node below a record's lowest.
-- Rests on Paths, Line and Memberships.
use Prim.Native.Nat.{ℕ, ◌≤◌, ◌<◌}
use native.Mathlib.Decide.{dec_lt, dec_le}
use native.Mathlib.Omega.{arith}
use mathlib.Core.Path.{◌≡◌, refl, sym, subst}
use mathlib.Core.Logic.{inl}
use mathlib.Core.Bool.{Bool, true, ◌&&◌, and-eq-true_iff}
use mathlib.Core.List.{List, map, Memᴰ}
use lib.Dec.{ltb}
use borrow.Author.Tests.{lt-ltb, ltb-true}
use Rattle.lists.specs.Lists.{keep, member, In}
use Rattle.lists.specs.Found.{Found, at, listed}
use Rattle.lists.proofs.Places.{times_in_back}
use Rattle.lists.proofs.Members.{member-times}
use Rattle.paper.specs.Map.{N}
use Rattle.paper.specs.Area.{position, lines_of, nodes_of}
use Rattle.paper.specs.Intervals.{Interval}
use Rattle.paper.specs.Walk.{M, next_on, start_nodes, stands_below}
use Rattle.paper.specs.Plain.{Linked, Convex}
use Rattle.convexity_theory.specs.Lined.{RightAfter, Neighbours, Lined}
use Rattle.convexity_theory.specs.Fits.{Spans, RecordOf, Fits}
use Rattle.convexity_theory.specs.Walked.{Beyond}
use Rattle.convexity_theory.proofs.Memberships.{
  in_member,
  member_in,
  kept,
  of_front,
  PartWith,
  in_flat_map,
  of_flat_map,
  Some,
  any_some,
  some-any,
}
use Rattle.convexity_theory.proofs.Extremes.{greatest-most}
use Rattle.convexity_theory.proofs.Line.{after_first, after-second, first_above}
use Rattle.convexity_theory.proofs.Paths.{climbs, rises-along}

-- no record's lowest is above M
lowest-low : (rs : List Interval) {r : Interval} → Memᴰ r rs → r.lowest ≤ M rs
unfolding M
lowest-low rs {r} m =
    greatest-most r.lowest (map (λ s. s.lowest) rs) (times_in_back r.lowest (map (λ s. s.lowest) rs) (member-times (λ s. s.lowest) m))

-- a node stands below the lowest of one record
abbrev under : List ℕ → List ℕ → ℕ → Interval → Bool
under b a x r = member r.line (lines_of b a x) && ltb (position b a x) r.lowest

-- a node that stands below a record's lowest, so below M
pub record Low (b a : List ℕ) (rs : List Interval) (x : ℕ) : Type 0 where
  pub stands : stands_below b a rs x ≡ true
  pub below : position b a x < M rs

-- a record of a line on which v comes right after u
record Across (b a : List ℕ) (rs : List Interval) (u v : ℕ) : Type 0 where
  which : Interval
  there : Memᴰ which rs
  after : RightAfter u v (nodes_of b a which.line)

module _ {b a : List ℕ} (lined : Lined b a) {list : List ℕ} {rs : List Interval} (fits : Fits b a list rs) where
  across : (u v w : ℕ) (n : Neighbours b a u v) → In w list → In w (nodes_of b a n.line) → Across b a rs u v
  across u v w n i on = go (fits.covers w n.line i n.known on)
    where
      go : RecordOf rs n.line → Across b a rs u v
      go r =
          record {
            which = r.which;
            there = r.there;
            after = subst (λ (l : ℕ). RightAfter u v (nodes_of b a l)) r.of_line n.after;
          }

  -- ---- into the list

  pub enters : (x y : ℕ) → Linked b x y → (In x list → ⊥) → In y list → Low b a rs x
  unfolding stands_below
  enters x y e out i = go (across x y y n i (after-second x y (nodes_of b a n.line) n.after))
    where
      n : Neighbours b a x y
      n = lined.neighbours e

      go : Across b a rs x y → Low b a rs x
      go c = split (dec_lt (position b a x) c.which.lowest)
        where
          line : List ℕ
          line = nodes_of b a c.which.line

          spans : Spans b a list c.which
          spans = fits.spans c.which c.there

          on : In x line
          on = after_first x y line c.after

          split : Dec (position b a x < c.which.lowest) → Low b a rs x
          split (yes low) =
              record {
                stands =
                    some-any (under b a x) c.there
                    (rw (in_member c.which.line (lines_of b a x) (lined.lists x c.which.line spans.known on)) (lt-ltb _ _ low));
                below = omega (arith, lowest-low rs c.there);
              }
          split (no high) =
              absurd
              (out
              (spans.inside x on (omega arith)
              (omega (arith, rises-along lined e, spans.at_most y i (after-second x y line c.after)))))

  -- a node beyond the list that stands below a record's lowest has a way back
  pub stands-back : (x : ℕ) → x < N b → Beyond b list x → stands_below b a rs x ≡ true → Convex b list → ⊥
  unfolding stands_below
  stands-back x h beyond e convex = go (any_some (under b a x) rs e)
    where
      go : Some (under b a x) true rs → ⊥
      go r =
          let says = (and-eq-true_iff (member r.which.line (lines_of b a x)) (ltb (position b a x) r.which.lowest)).0 r.says in
          let spans = fits.spans r.which r.there in
          let on = lined.listed x r.which.line h (member_in r.which.line (lines_of b a x) says.0) in
          let low = ltb-true (position b a x) r.which.lowest says.1 in
          let reached = beyond.reached in
          convex reached.0 x spans.low.node reached.1 reached.2 beyond.outside
          (climbs lined r.which.line spans.known x spans.low.node on spans.low.on_line (omega (arith, spans.low.stands)))
          spans.low.in_list

  -- ---- out of the list

  pub start-beyond : (x : ℕ) → In x (start_nodes b a rs) → Beyond b list x
  unfolding start_nodes next_on
  start-beyond x i = go (of_flat_map (λ r. listed (next_on b a r.line r.highest)) x rs i)
    where
      above : Interval → ℕ → Bool
      above r v = ltb r.highest (position b a v)

      go : PartWith (λ r. listed (next_on b a r.line r.highest)) x rs → Beyond b list x
      go p =
          let r = p.which in
          let spans = fits.spans r p.there in
          let on = kept (above r) x (nodes_of b a r.line) (of_front x (keep (above r) (nodes_of b a r.line)) p.has) in
          let high = ltb-true r.highest (position b a x) on.0 in
          record {
            outside = λ i. omega (arith, spans.at_most x i on.1);
            reached = (
              spans.high.node,
              spans.high.in_list,
              climbs lined r.line spans.known spans.high.node x spans.high.on_line on.1 (omega (arith, spans.high.stands)),
            );
          }

  pub leaves : (u v : ℕ) → Linked b u v → In u list → (In v list → ⊥) → In v (start_nodes b a rs)
  unfolding start_nodes next_on
  leaves u v e i out = go (across u v u n i (after_first u v (nodes_of b a n.line) n.after))
    where
      n : Neighbours b a u v
      n = lined.neighbours e

      go : Across b a rs u v → In v (start_nodes b a rs)
      go c = split (dec_le (position b a v) c.which.highest)
        where
          line : List ℕ
          line = nodes_of b a c.which.line

          spans : Spans b a list c.which
          spans = fits.spans c.which c.there

          on : In u line
          on = after_first u v line c.after

          next : c.which.highest < position b a v → next_on b a c.which.line c.which.highest ≡ at v
          next = first_above (position b a) c.which.highest line (lined.rises c.which.line spans.known) u v c.after (spans.at_most u i on)

          split : Dec (position b a v ≤ c.which.highest) → In v (start_nodes b a rs)
          split (yes low) =
              absurd (out (spans.inside v (after-second u v line c.after) (omega (arith, rises-along lined e, spans.at_least u i on)) low))
          split (no high) =
              in_flat_map (λ r. listed (next_on b a r.line r.highest)) v c.there
              (subst (λ (f : Found). In v (listed f)) (sym (next (omega arith))) (inl refl))
