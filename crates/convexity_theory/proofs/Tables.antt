-- Accepted tables are `Lined`: links and neighbours on lines are the same, by count, and a node and a line list each other.
-- Rests on Line, Memberships and accepted_theory.Tables (known lines and nodes).
use Prim.Native.Nat.{ℕ, ◌≤◌, ◌<◌}
use native.Mathlib.Omega.{arith}
use mathlib.Core.Path.{ap}
use mathlib.Core.Bool.{true, ◌&&◌, and-eq-true_iff}
use mathlib.Core.List.{List}
use lib.ListN.{length}
use lib.Dec.{eqb}
use borrow.Author.Tests.{eq-eqb, eqb-true}
use Rattle.lists.specs.Lists.{upto, one, member, In}
use Rattle.lists.proofs.Places.{times_in, times_in_back}
use Rattle.lists.proofs.Count.{one-is, one-small}
use Rattle.paper.specs.Map.{N, L, link_from, link_to}
use Rattle.paper.specs.Area.{W, K, lines_of, nodes_of}
use Rattle.paper.specs.Accepted.{links_between, lines_between, right_after, Accepted}
use Rattle.paper.specs.Plain.{Linked}
use Rattle.order_theory.specs.Sound.{Sound}
use Rattle.accepted_theory.specs.SameTables.{KnownNode, KnownLine}
use Rattle.accepted_theory.proofs.Tables.{lines-known, nodes-known}
use Rattle.convexity_theory.specs.Lined.{RightAfter, Neighbours, Lined}
use Rattle.convexity_theory.proofs.Memberships.{
  in_member,
  member_in,
  in_every,
  Some,
  count-some,
  count-upto-some,
  upto-below,
}
use Rattle.convexity_theory.proofs.Line.{right-after, after-right, after_first, after-second}
use Rattle.convexity_theory.proofs.Paths.{target-known}

-- ---- counts of links and of lines

module _ (b : List ℕ) (u v : ℕ) where
  linked-count : Linked b u v → 1 ≤ links_between b u v
  unfolding links_between
  linked-count e =
      count-upto-some (λ k. eqb (link_from b k) u && eqb (link_to b k) v) (L b) e.link e.known
      (rw (eq-eqb (link_from b e.link) u e.source) (eq-eqb (link_to b e.link) v e.target))

  count-linked : 1 ≤ links_between b u v → Linked b u v
  unfolding links_between
  count-linked h = go (count-some (λ k. eqb (link_from b k) u && eqb (link_to b k) v) (upto (L b)) h)
    where
      go : Some (λ k. eqb (link_from b k) u && eqb (link_to b k) v) true (upto (L b)) → Linked b u v
      go s =
          let ends = (and-eq-true_iff (eqb (link_from b s.which) u) (eqb (link_to b s.which) v)).0 s.says in
          record {
            link = s.which;
            known = upto-below s.there;
            source = eqb-true (link_from b s.which) u ends.0;
            target = eqb-true (link_to b s.which) v ends.1;
          }

module _ (b a : List ℕ) (u v : ℕ) where
  count-neighbours : 1 ≤ lines_between b a u v → Neighbours b a u v
  unfolding lines_between
  count-neighbours h = go (count-some (λ l. right_after u v (nodes_of b a l)) (upto (K b a)) h)
    where
      go : Some (λ l. right_after u v (nodes_of b a l)) true (upto (K b a)) → Neighbours b a u v
      go s =
          record {
            line = s.which;
            known = upto-below s.there;
            after = right-after u v (nodes_of b a s.which) s.says;
          }

  neighbours-count : (l : ℕ) → l < K b a → RightAfter u v (nodes_of b a l) → 1 ≤ lines_between b a u v
  unfolding lines_between
  neighbours-count l h r =
      count-upto-some (λ k. right_after u v (nodes_of b a k)) (K b a) l h (after-right u v (nodes_of b a l) r)

-- ---- accepted tables

module _ {b a : List ℕ} (s : Sound b) (acc : Accepted b a) (room : W b ≤ length a) where
  node-known : (v l : ℕ) → l < K b a → In v (nodes_of b a l) → v < N b
  node-known v l h i = in_every (KnownNode b) (nodes_of b a l) (nodes-known acc room l h) i

  line_known : (v l : ℕ) → v < N b → In l (lines_of b a v) → l < K b a
  line_known v l h i = in_every (KnownLine b a) (lines_of b a v) (lines-known acc room v h) i

  lists-line : (v l : ℕ) → l < K b a → In v (nodes_of b a l) → In l (lines_of b a v)
  lists-line v l h i =
      times_in_back l (lines_of b a v)
      (omega (arith, acc.listed v (node-known v l h i) l h, ap one (in_member v (nodes_of b a l) i)))

  lists-node : (v l : ℕ) → v < N b → In l (lines_of b a v) → In v (nodes_of b a l)
  lists-node v l h i =
      let test = member v (nodes_of b a l) in
      member_in v (nodes_of b a l)
      (one-is test (omega (arith, times_in l (lines_of b a v) i, acc.listed v h l (line_known v l h i), one-small test)))

  pub accepted_lined : Lined b a
  accepted_lined =
      record {
        rises = acc.rises;
        lists = lists-line;
        known = line_known;
        listed = lists-node;
        neighbours = λ {u} {v} e. count-neighbours b a u v (omega (arith, linked-count b u v e, acc.adjacent u (source_known e) v (target-known s e)));
        linked = λ l h u v r. count-linked b u v
            (omega
            (arith, neighbours-count b a u v l h r, acc.adjacent u (node-known u l h (after_first u v (nodes_of b a l) r)) v (node-known v l h (after-second u v (nodes_of b a l) r))));
      }
    where
      source_known : {u v : ℕ} → Linked b u v → u < N b
      source_known e = omega (arith, s.source e.link e.known, e.source)
