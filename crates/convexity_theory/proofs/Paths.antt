-- Directed paths: two joined, the nodes they lead to, the links out of a node as its neighbours, and the path up a line.
-- Rests on Line and order_theory.Links.
use Prim.Native.Nat.{ℕ, ◌<◌}
use native.Mathlib.Omega.{arith}
use mathlib.Core.Path.{refl, sym, ap, subst}
use mathlib.Core.Logic.{inl, inr}
use mathlib.Core.List.{List, [], ◌∷◌, map}
use Rattle.lists.specs.Lists.{In, Rising}
use Rattle.lists.proofs.Count.{one_eq, one_eq_back}
use Rattle.lists.proofs.Places.{times_in, times_in_back}
use Rattle.lists.proofs.Members.{member_for, member-times, member_below, MemberFor}
use Rattle.paper.specs.Map.{N, link_from, link_to, out_links, out_neighbours}
use Rattle.paper.specs.Area.{K, position, nodes_of}
use Rattle.paper.specs.Plain.{Linked, DirectedPath, link, onward}
use Rattle.order_theory.specs.Sound.{Sound}
use Rattle.order_theory.proofs.Links.{out-known, out-times}
use Rattle.convexity_theory.specs.Lined.{RightAfter, Lined}
use Rattle.convexity_theory.proofs.Memberships.{in_mem, mem_in}
use Rattle.convexity_theory.proofs.Line.{after_later, rises-above, rises-on, after-rises}

pub joined : {b : List ℕ} {u v w : ℕ} → DirectedPath b u v → DirectedPath b v w → DirectedPath b u w
joined (link e) q = onward e q
joined (onward e p) q = onward e (joined p q)

-- ---- known nodes, and neighbours

module _ {b : List ℕ} (s : Sound b) where
  pub target-known : {u v : ℕ} → Linked b u v → v < N b
  target-known e = subst (λ (x : ℕ). x < N b) e.target (s.target e.link e.known)

  pub path-known : {u v : ℕ} → DirectedPath b u v → v < N b
  path-known (link e) = target-known e
  path-known (onward e p) = path-known p

  -- a node's output neighbours are those it is linked to
  pub neighbour_linked : (u v : ℕ) → In v (out_neighbours b u) → Linked b u v
  unfolding out_neighbours
  neighbour_linked u v i = go (member_for (link_to b) v (out_links b u) (times_in v (map (link_to b) (out_links b u)) i))
    where
      go : MemberFor (link_to b) v (out_links b u) → Linked b u v
      go m =
          let known = member_below (out-known b u) m.there in
          let there = times_in m.which (out_links b u) (mem_in (out_links b u) m.there) in
          record {
            link = m.which;
            known = known;
            source = one_eq_back (link_from b m.which) u (omega (arith, out-times s u m.which known));
            target = sym m.has;
          }

  pub linked_neighbour : (u v : ℕ) → Linked b u v → In v (out_neighbours b u)
  unfolding out_neighbours
  linked_neighbour u v e =
      subst (λ (x : ℕ). In x (map (link_to b) (out_links b u))) e.target
      (times_in_back (link_to b e.link) (map (link_to b) (out_links b u))
      (member-times (link_to b)
      (in_mem (out_links b u)
      (times_in_back e.link (out_links b u) (omega (arith, out-times s u e.link e.known, one_eq (link_from b e.link) u e.source))))))

-- ---- up a line

module _ (b : List ℕ) where
  -- neighbours are linked
  abbrev Chained : List ℕ → Type 0
  Chained xs = (u v : ℕ) → RightAfter u v xs → Linked b u v

  from_first : (x : ℕ) (xs : List ℕ) → Chained (x ∷ xs) → {y : ℕ} → In y xs → DirectedPath b x y
  from_first x [] h i = absurd i
  from_first x (z ∷ zs) h (inl e) = link (subst (Linked b x) (sym e) (h x z (inl (refl, refl))))
  from_first x (z ∷ zs) h (inr i) = onward (h x z (inl (refl, refl))) (from_first z zs (λ u v r. h u v (inr r)) i)

  up_line : (g : ℕ → ℕ) (xs : List ℕ) → Rising (map g xs) → Chained xs → {x y : ℕ} → In x xs → In y xs → g x < g y → DirectedPath b x y
  up_line g [] r h i j l = absurd i
  up_line g (z ∷ zs) r h (inl e) (inl f) l = absurd (omega (arith, ap g e, ap g f))
  up_line g (z ∷ zs) r h {y = y} (inl e) (inr j) l = subst (λ (x : ℕ). DirectedPath b x y) (sym e) (from_first z zs h j)
  up_line g (z ∷ zs) r h (inr i) (inl f) l = absurd (omega (arith, ap g f, rises-above g z zs r i))
  up_line g (z ∷ zs) r h (inr i) (inr j) l = up_line g zs (rises-on g z zs r) (λ u v n. h u v (after_later u v z zs n)) i j l

module _ {b a : List ℕ} (lined : Lined b a) where
  pub climbs : (l : ℕ) → l < K b a → (u v : ℕ) → In u (nodes_of b a l) → In v (nodes_of b a l) → position b a u < position b a v → DirectedPath b u v
  climbs l h u v i j low = up_line b (position b a) (nodes_of b a l) (lined.rises l h) (lined.linked l h) i j low

  -- positions rise along a link
  pub rises-along : {u v : ℕ} → Linked b u v → position b a u < position b a v
  rises-along e =
      let n = lined.neighbours e in
      after-rises (position b a) (nodes_of b a n.line) (lined.rises n.line n.known) n.after
